use Rattle.lk_label.specs.Inner.{AreFound}
use Rattle.lk_label.proofs.within.nodes_within.Given as goal

abbrev pub invariant-loop-k : goal.invariant-loop-k
invariant-loop-k l = AreFound l.types l.fn.t l.k l.found
