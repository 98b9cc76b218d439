use Rattle.std.proofs.Common.{◌≡◌, length}
use Rattle.lk_sets.specs.Closing.{absent}
use Rattle.lk_sets.proofs.Closing.{Grown}
use Rattle.lk_graph.specs.Passing.{ArePassedOrMarked, AreReached}
use Rattle.lk_graph.proofs.graph.Graph.passed.Given as goal

abbrev pub invariant-loop : goal.invariant-loop
invariant-loop l = record {
  grown : Grown (AreReached l.back) l.initial.rows l.rows;
  long : length l.marks.items ≡ length l.back;
  waits : ArePassedOrMarked l.back l.marks.items l.rows;
}

abbrev pub decreases-loop : goal.decreases-loop
decreases-loop l = absent l.rows
