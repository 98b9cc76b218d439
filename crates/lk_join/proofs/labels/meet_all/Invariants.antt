use Rattle.lk_join.specs.Labels.{HasMetAll}
use Rattle.lk_join.proofs.labels.meet_all.Given as goal

abbrev pub invariant-loop-before : goal.invariant-loop-before
invariant-loop-before l = HasMetAll l.units l.structs l.initial.labels.items l.labels.items l.before l.place
