-- What lowering gives.
use Rattle.std.specs.Prelude.{◌≡◌, ℕ, Some}
use Rattle.lk_facts.specs.Program.{place_at}
use Rattle.lk_facts.specs.declared.place.Place.{Place}
use Rattle.lk_facts.specs.declared.program.Program.{Program}
use Rattle.lk_point_statics.specs.PointStatics.{AreStatics}
use Rattle.lk_point_types.specs.PointTypes.{HaveTypes}
use Rattle.lk_point_ways.specs.PointWays.{KeepWays}
use Rattle.lk_types.specs.Nodes.{IsNode}

-- the node of each place is one of the program's types
abbrev pub ArePlaceNodes : Program → Type 0
ArePlaceNodes program = (n : ℕ) (place : Place) → place_at program n ≡ Some place →
    IsNode program.types place.node

-- what is tested of the program when it is made
pub record IsTested (program : Program) : Type 0 where
  pub types : HaveTypes program
  pub ways : KeepWays program
  pub statics : AreStatics program
