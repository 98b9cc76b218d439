use Rattle.lk_origin.proofs.InflowLemmas.{Listing}
use Rattle.lk_origin.proofs.inflow.push_inflows.Given as goal

abbrev pub invariant-loop-label : goal.invariant-loop-label
invariant-loop-label l = Listing l.levels l.entrance l.initial.all.items l.all.items l.label-iterator
