use Rattle.lk_graph.proofs.SearchLemmas.{cycles_all}
use Rattle.lk_graph.proofs.loops.cycles.Goals as goal

pub returns : goal.returns
returns c = cycles_all c.args.points.now _ _ _ _ c.list.ensures.value c.in_ok-set.ensures c.in_ok-again.ensures c.in_ok-steps.ensures.steps
