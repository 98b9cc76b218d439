use Rattle.std.proofs.Common.{◌≡◌, length}
use Rattle.lk_graph.specs.Again.{IsValueAt}
use Rattle.lk_graph.proofs.FoundLemmas.{AreGivenBelow}
use Rattle.lk_graph.proofs.again.values.Given as goal

abbrev pub invariant-loop-function : goal.invariant-loop-function
invariant-loop-function l = record {
  size : l.values.size ≡ length l.points.functions;
  below : AreGivenBelow (IsValueAt l.points) l.function l.values.list;
}
