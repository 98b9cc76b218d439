use Rattle.std.proofs.Common.{◌≡◌, length, take}
use Rattle.lk_graph.proofs.SearchLemmas.{IsAsked}
use Rattle.lk_graph.proofs.graph.Graph.on_cycles.Given as goal

abbrev pub invariant-loop-a : goal.invariant-loop-a
invariant-loop-a l = record {
  size : l.again.size ≡ length l.self;
  asked : IsAsked l.self l.left.items (take l.a-index l.order) l.again.list;
}
