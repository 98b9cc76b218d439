use Rattle.lk_graph.proofs.OrderLemmas.{AreBelow}
use Rattle.lk_graph.proofs.walk.with_others.Given as goal

abbrev pub invariant-loop-a : goal.invariant-loop-a
invariant-loop-a l = AreBelow l.marks l.all.items l.a
