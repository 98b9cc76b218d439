use Rattle.std.proofs.Common.{take}
use Rattle.lk_sets.specs.Adding.{IsGiven}
use Rattle.lk_graph.specs.Found.{Finds}
use Rattle.lk_graph.proofs.SearchLemmas.{IsMarkedAs}
use Rattle.lk_graph.proofs.graph.Graph.put_ends.Given as goal

abbrev pub invariant-loop-b : goal.invariant-loop-b
invariant-loop-b l = Finds (IsGiven (IsMarkedAs l.marks) (take l.b-index l.b-items)) l.fn.found l.found
