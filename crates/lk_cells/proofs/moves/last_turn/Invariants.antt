use Rattle.std.proofs.Common.{◌≡◌, ◌≤◌, drop, take, length}
use Rattle.std.specs.Prelude.{IfSome}
use Rattle.lk_cells.specs.Moves.{path_after, path_turned}
use Rattle.lk_cells.proofs.PartLemmas.{joined}
use Rattle.lk_cells.proofs.moves.last_turn.Given as goal

-- the steps so far have led to `reached`, and the last one that has a next part is the one that was found
abbrev pub invariant-loop-place : goal.invariant-loop-place
invariant-loop-place l =
    (joined (take l.place l.steps) (path_after l.types l.object.length (drop l.place l.steps) l.reached) (path_turned l.steps l.found) ≡ path_after l.types l.object.length l.steps l.object.ty)
    × IfSome l.found (λ turn. turn.0 ≤ length l.steps)
