use Rattle.std.proofs.Common.{◌≡◌, ◌≤◌}
use Rattle.lk_graph.proofs.AgainLemmas.{IsGrowing}
use Rattle.lk_graph.proofs.again.grow.Given as goal

abbrev pub invariant-loop-k : goal.invariant-loop-k
invariant-loop-k l = record {
  size : l.again.size ≡ l.fn.again.size;
  growing : IsGrowing l.fn.again.list l.enterings l.again.list l.k;
  small : l.k ≤ 9223372036854775808;
}
