use Rattle.std.proofs.Common.{◌≡◌, ◌<◌, drop, take, length}
use Rattle.std.specs.Prelude.{IfSome}
use Rattle.lk_change.specs.Fills.{next_path, path_counted}
use Rattle.lk_cells.proofs.PartLemmas.{joined}
use Rattle.lk_change.proofs.fills.last_turn.Given as goal

abbrev pub invariant-loop-place : goal.invariant-loop-place
invariant-loop-place l =
    (joined (take l.place l.steps) (next_path l.types l.object.length (drop l.place l.steps) l.reached) (path_counted l.steps l.found) ≡ next_path l.types l.object.length l.steps l.object.ty)
    × IfSome l.found (λ turn. turn.0 < length l.steps)
