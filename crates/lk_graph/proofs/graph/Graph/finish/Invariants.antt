use Rattle.std.proofs.Common.{length}
use Rattle.lk_graph.specs.Order.{IsWalk}
use Rattle.lk_graph.proofs.graph.Graph.finish.Given as goal

abbrev pub invariant-loop : goal.invariant-loop
invariant-loop l = IsWalk (length l.self) l.walk
