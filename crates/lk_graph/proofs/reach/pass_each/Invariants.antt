use Rattle.lk_graph.proofs.PassingLemmas.{IsPassedTo}
use Rattle.lk_graph.proofs.reach.pass_each.Given as goal

abbrev pub invariant-loop-a : goal.invariant-loop-a
invariant-loop-a l = IsPassedTo l.from l.into l.a-index l.fn.rows l.rows l.fn.marks.items l.marks.items l.changed
