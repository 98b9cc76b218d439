use Rattle.std.proofs.Common.{◌∷◌, subst}
use Rattle.lk_play.specs.Calls.{Comes}
use Rattle.lk_play.specs.Plays.{for_one, once}
use Rattle.lk_play.specs.declared.schedules.Turn.{Turn}
use Rattle.lk_play.proofs.Taking.{turn_until, turn_once}
use Rattle.lk_play.proofs.running.take_turn.Goals as goal

pub returns-then-turn-clause-comes : goal.returns-then-turn-clause-comes
returns-then-turn-clause-comes c = λ rest.
    subst (λ (t : Turn). Comes c.args.points.now c.args.state c.args.telling.now (t ∷ rest) c.take_steps.new.telling rest c.in_ok-coming.coming)
    (turn_until c.args.turn c.if-turn.true) (c.in_ok-coming.ensures.comes rest)

pub returns-clause-comes : goal.returns-clause-comes
returns-clause-comes c = λ rest.
    subst (λ (t : Turn). Comes c.args.points.now c.args.state c.args.telling.now (t ∷ rest) c.take_step.new.telling rest c.in_ok-coming-2.coming)
    (turn_once c.args.turn c.if-turn.false) (c.in_ok-coming-2.ensures.comes (once c.args.turn.thread c.args.turn.word ∷ rest) rest for_one)
