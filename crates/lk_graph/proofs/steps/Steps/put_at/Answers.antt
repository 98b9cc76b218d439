use Rattle.lk_graph.proofs.StepLemmas.{put_at_all}
use Rattle.lk_graph.proofs.steps.Steps.put_at.Goals as goal

pub returns-clause-arrows : goal.returns-clause-arrows
returns-clause-arrows c =
    put_at_all c.args.self c.args.points.now c.args.point c.args.graph.now c.loop-next.graph c.next-next-items.result.now c.loop-next.next-index c.loop-next-test.false c.next-next-items.ensures.value c.loop-next.invariant.arrows
