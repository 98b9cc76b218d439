-- Where the points and the roots of a program stand: at places of the typed trees that it is made of. Each
-- is the contract of a function.
use Rattle.std.specs.Prelude.{ℕ, ◌<◌, map}
use Rattle.std.specs.List.{All}
use Rattle.lk_facts.specs.declared.program.Program.{Program}
use Rattle.lk_lower_expr.specs.Programs.{IsMadeOf}
use Rattle.lk_spots.specs.TypedPlaces.{TypedUnitSpots}
use Rattle.lk_typed.specs.declared.whole.Whole.{Whole}

-- where each place in the typed trees of a program's sources is in one of the first files, so is each root
-- and each point of a program that is made of them; file 0, which is that of no place, is one of them
abbrev pub PointsStandInFiles : Type 0
PointsStandInFiles =
    (files : ℕ) (whole : Whole) (program : Program) → 0 < files →
    All (TypedUnitSpots (λ spot. spot.file < files)) (map (λ linked. linked.unit) whole.sources) →
    IsMadeOf whole program →
    All (λ root. root.spot.file < files) program.roots × All (λ point. point.spot.file < files) program.points
