use Rattle.lk_join.specs.Labels.{AreOwn}
use Rattle.lk_join.proofs.labels.first_labels.Given as goal

abbrev pub invariant-loop-place : goal.invariant-loop-place
invariant-loop-place l = AreOwn l.place l.labels.items
