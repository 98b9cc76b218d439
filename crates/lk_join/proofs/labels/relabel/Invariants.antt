use Rattle.lk_join.proofs.Relabelling.{IsRelabelledBelow}
use Rattle.lk_join.proofs.labels.relabel.Given as goal

abbrev pub invariant-loop-place : goal.invariant-loop-place
invariant-loop-place l = IsRelabelledBelow l.initial.labels.items l.labels.items l.kept l.other l.place
