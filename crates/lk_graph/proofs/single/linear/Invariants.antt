use Rattle.lk_graph.specs.Single.{IsLinearAt}
use Rattle.lk_graph.proofs.FoundLemmas.{AreGivenBelow}
use Rattle.lk_graph.proofs.single.linear.Given as goal

abbrev pub invariant-loop-place : goal.invariant-loop-place
invariant-loop-place l = AreGivenBelow (IsLinearAt l.points) l.place l.ids.items
