use Rattle.lk_origin.proofs.TakeLemmas.{Taking}
use Rattle.lk_origin.proofs.taking.take_row.Given as goal

abbrev pub invariant-loop-b : goal.invariant-loop-b
invariant-loop-b l = Taking l.from l.initial.into l.into l.a l.b-iterator l.changed
