use Rattle.std.proofs.Common.{[], List, subst}
use Rattle.lk_play.specs.Calls.{TellsTouch}
use Rattle.lk_play.specs.declared.schedules.Turn.{Turn}
use Rattle.lk_play.proofs.Taking.{then_on, passes, step_on, step_ends}
use Rattle.lk_play.proofs.running.take_steps.Goals as goal

pub returns-then-branch-clause-comes : goal.returns-then-branch-clause-comes
returns-then-branch-clause-comes c = λ rest.
    let some = subst (TellsTouch c.args.points.now c.loop-state.state c.args.thread) c.if-branch.true c.in_ok-is_touching.ensures in
    then_on c.args.points.now (c.loop-state.invariant.goes rest)
    (passes c.args.points.now c.loop-state.state c.loop-state.telling c.args.thread c.args.word rest some.0 c.loop-state.invariant.small some.1)

pub loop-state-preserved : goal.loop-state-preserved
loop-state-preserved c =
    let none = subst (TellsTouch c.args.points.now c.loop-state.state c.args.thread) c.if-branch.false c.in_ok-is_touching.ensures in
    let goes = λ (rest : List Turn).
    step_on c.args.points.now c.args.state c.loop-state.state c.args.telling.now c.loop-state.telling c.take_step.new.telling c.args.thread c.args.word c.in_ok-next.field-0 none c.in_ok-next.ensures.comes rest (c.loop-state.invariant.goes rest) c.in-On.next c.in-On.is in
    record { small = (goes []).small; few = c.in_ok-next.ensures.few; goes = goes }

pub returns-in-Over-clause-comes : goal.returns-in-Over-clause-comes
returns-in-Over-clause-comes c = λ rest.
    let none = subst (TellsTouch c.args.points.now c.loop-state.state c.args.thread) c.if-branch.false c.in_ok-is_touching.ensures in
    step_ends c.args.points.now c.args.state c.loop-state.state c.args.telling.now c.loop-state.telling c.take_step.new.telling c.args.thread c.args.word c.in_ok-next.field-0 none c.in_ok-next.ensures.comes rest (c.loop-state.invariant.goes rest) c.in-Over.ending c.in-Over.is
