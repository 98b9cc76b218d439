use Rattle.std.proofs.Common.{arith}
use Rattle.lk_graph.proofs.StepLemmas.{steps_all}
use Rattle.lk_graph.proofs.steps.Steps.graph.Goals as goal

pub returns-clause-steps : goal.returns-clause-steps
returns-clause-steps c =
    steps_all c.args.self c.args.points.now c.loop-point.graph c.loop-point.point (omega (arith, c.loop-point.auto.point-end, c.loop-point-test.false, c.count-point-end.ensures.value)) c.loop-point.invariant.arrows
