use Rattle.lk_play.proofs.Taking.{turn_on, turn_ends, turns_end}
use Rattle.lk_play.proofs.running.take_turns.Goals as goal

pub returns-in-Over : goal.returns-in-Over
returns-in-Over c =
    turn_ends c.args.points.now c.args.state c.loop-turn.state c.args.telling.now c.loop-turn.telling c.take_turn.new.telling c.args.turns.now c.loop-turn.turn-index _ c.in_ok-next.field-0 c.loop-turn-test.true c.loop-turn.invariant.goes c.in_ok-next.ensures.comes c.in-Over.ending c.in-Over.is

pub loop-turn-preserved : goal.loop-turn-preserved
loop-turn-preserved c =
    let goes =
    turn_on c.args.points.now c.args.state c.loop-turn.state c.args.telling.now c.loop-turn.telling c.take_turn.new.telling c.args.turns.now c.loop-turn.turn-index _ c.in_ok-next.field-0 c.loop-turn-test.true c.loop-turn.invariant.goes c.in_ok-next.ensures.comes c.in-On.next c.in-On.is in
    record { small = goes.small; few = c.in_ok-next.ensures.few; goes = goes }

pub returns : goal.returns
returns c =
    turns_end c.args.points.now c.args.state c.loop-turn.state c.args.telling.now c.loop-turn.telling c.args.turns.now c.loop-turn.turn-index c.loop-turn-test.false c.loop-turn.invariant.goes
