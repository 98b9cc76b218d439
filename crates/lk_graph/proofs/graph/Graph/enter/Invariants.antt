use Rattle.std.proofs.Common.{length}
use Rattle.lk_graph.specs.Order.{IsWalk}
use Rattle.lk_graph.proofs.graph.Graph.enter.Given as goal

abbrev pub invariant-loop-b : goal.invariant-loop-b
invariant-loop-b l = IsWalk (length l.self) l.walk
