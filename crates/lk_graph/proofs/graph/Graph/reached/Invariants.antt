use Rattle.std.proofs.Common.{◌≡◌, ◌≤◌, length}
use Rattle.lk_graph.proofs.SearchLemmas.{IsSearch}
use Rattle.lk_graph.proofs.graph.Graph.reached.Given as goal

abbrev pub invariant-loop-k : goal.invariant-loop-k
invariant-loop-k l = record {
  size : l.found.size ≡ length l.self;
  search : IsSearch l.self l.marks l.start l.found.list l.k;
  small : l.k ≤ 9223372036854775808;
}
