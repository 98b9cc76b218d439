use Rattle.lk_graph.proofs.PassingLemmas.{IsRound}
use Rattle.lk_graph.proofs.graph.Graph.pass_marked.Given as goal

abbrev pub invariant-loop-a : goal.invariant-loop-a
invariant-loop-a l = IsRound l.self l.order l.a-index l.fn.rows l.rows l.marks.items l.changed
