use Rattle.std.proofs.Common.{◌++◌, ◌∙◌, ap, subst, sym}
use Rattle.lk_birth.specs.Births.{listed}
use Rattle.lk_play.specs.Races.{AreRaced, race_lines}
use Rattle.lk_play.specs.Plays.{waits, fails, has_ended, is_missing, is_full}
use Rattle.lk_play.specs.declared.lines.Ending.TheVariants as ends
use Rattle.lk_play.proofs.Taking.{limited, moved, stopped}
use Rattle.lk_play.proofs.running.take_step.Goals as goal

pub returns-then-telling-ge-MOST_STEPS-clause-comes :
    goal.returns-then-telling-ge-MOST_STEPS-clause-comes
returns-then-telling-ge-MOST_STEPS-clause-comes c =
    limited c.args.points.now c.args.state c.args.telling.now c.args.thread c.args.word c.if-telling-ge-MOST_STEPS.true c.requires.few

pub returns-in-Moved-clause-comes : goal.returns-in-Moved-clause-comes
returns-in-Moved-clause-comes c =
    moved c.args.points.now c.args.state c.in-Moved.state c.args.telling.now c.tell.new.self c.args.thread c.args.word c.in-Moved._event c.in_ok-access.access c.if-telling-ge-MOST_STEPS.false c.in-Moved.ensures c.in_ok-access.ensures
    (subst (AreRaced c.args.points.now c.in-Moved.state) (sym c.in_ok-tell-in-Moved.ensures.raced) c.in_ok-raced-in-Moved.ensures)
    (c.in_ok-tell-in-Moved.ensures.lines ∙ ap (λ r. c.args.telling.now.lines.items ++ (listed c.in_ok-access.access ++ race_lines c.args.telling.now.raced r)) (sym c.in_ok-tell-in-Moved.ensures.raced))
    c.in_ok-tell-in-Moved.ensures.taken

pub returns-in-Waits-clause-comes : goal.returns-in-Waits-clause-comes
returns-in-Waits-clause-comes c =
    stopped c.args.points.now c.args.state c.args.telling.now c.args.thread c.args.word (ends.Waits c.args.thread) c.if-telling-ge-MOST_STEPS.false (waits c.in-Waits.ensures.0)

pub returns-in-Undefined-clause-comes : goal.returns-in-Undefined-clause-comes
returns-in-Undefined-clause-comes c =
    stopped c.args.points.now c.args.state c.args.telling.now c.args.thread c.args.word (ends.Undefined c.args.thread c.in-Undefined.why) c.if-telling-ge-MOST_STEPS.false (fails c.in-Undefined.ensures.0)

pub returns-in-Ended-clause-comes : goal.returns-in-Ended-clause-comes
returns-in-Ended-clause-comes c =
    stopped c.args.points.now c.args.state c.args.telling.now c.args.thread c.args.word (ends.Ended c.args.thread) c.if-telling-ge-MOST_STEPS.false (has_ended c.in-Ended.ensures.0)

pub returns-in-NoSuchThread-clause-comes : goal.returns-in-NoSuchThread-clause-comes
returns-in-NoSuchThread-clause-comes c =
    stopped c.args.points.now c.args.state c.args.telling.now c.args.thread c.args.word (ends.NoThread c.args.thread) c.if-telling-ge-MOST_STEPS.false (is_missing c.in-NoSuchThread.ensures.0)

pub returns-in-Full-clause-comes : goal.returns-in-Full-clause-comes
returns-in-Full-clause-comes c =
    stopped c.args.points.now c.args.state c.args.telling.now c.args.thread c.args.word (ends.Full c.args.thread) c.if-telling-ge-MOST_STEPS.false (is_full c.in-Full.ensures.0)
