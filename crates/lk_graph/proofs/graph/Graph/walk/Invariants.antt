use Rattle.std.proofs.Common.{◌<◌, All, length}
use Rattle.lk_graph.specs.Order.{turn_number}
use Rattle.lk_graph.proofs.graph.Graph.walk.Given as goal

abbrev pub invariant-loop-begin : goal.invariant-loop-begin
invariant-loop-begin l = All (λ turn. turn_number turn < length l.self) l.pending.items
