use Rattle.std.proofs.Common.{◌≡◌, ◌≤◌, take, length}
use Rattle.lk_cells.specs.Moves.{whole_at}
use Rattle.lk_cells.proofs.moves.whole_at.Given as goal

abbrev pub decreases-loop-kept : goal.decreases-loop-kept
decreases-loop-kept l = l.kept

abbrev pub invariant-loop-kept : goal.invariant-loop-kept
invariant-loop-kept l = (l.kept ≤ length l.path) × (whole_at (take l.kept l.path) ≡ whole_at l.path)
