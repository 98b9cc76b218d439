use Rattle.std.proofs.Common.{◌+◌, ◌&&◌, length}
use Rattle.lk_sets.proofs.Merging.{Merges}
use Rattle.lk_sets.proofs.id_set.IdSet.meet.Given as goal

abbrev pub invariant-loop-x : goal.invariant-loop-x
invariant-loop-x l = Merges ◌&&◌ l.self l.other l.ids.items l.left l.right

abbrev pub decreases-loop-x : goal.decreases-loop-x
decreases-loop-x l = length l.left + length l.right
