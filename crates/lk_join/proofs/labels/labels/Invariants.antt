use Rattle.lk_join.proofs.Relabelling.{AreLabelsBelow}
use Rattle.lk_join.proofs.labels.labels.Given as goal

abbrev pub invariant-loop-place : goal.invariant-loop-place
invariant-loop-place l = AreLabelsBelow l.units l.structs l.labels.items l.place
