use Rattle.std.proofs.Common.{subst}
use Rattle.lk_words.specs.Seen.{seen_task}
use Rattle.lk_top.specs.Answer.{JudgesFor}
use Rattle.lk_top.specs.Errands.{seen_errand}
use Rattle.lk_top.proofs.AnswerLemmas.{for_errand, not_asked}
use Rattle.lk_top.proofs.answer.judge.Goals as goal

pub returns-in_ok-answer-in-Ok : goal.returns-in_ok-answer-in-Ok
returns-in_ok-answer-in-Ok c =
    let task = seen_task c.args.task.now in
    let texts = c.args.texts in
    let asked = c.in-Ok.asked in
    let answer = c.in_ok-answer-in-Ok.answer in
    for_errand task texts asked answer (rw (c.list.ensures, c.list-2.ensures) at c.in-Ok.ensures.ok)
    (subst (λ files. JudgesFor (seen_errand asked.errand) files asked.externs.items texts.sources answer) c.in-Ok.ensures.same (rw c.list-in-Ok.ensures at c.in_ok-answer-in-Ok.ensures))

pub returns-in_ok-answer-in-Err : goal.returns-in_ok-answer-in-Err
returns-in_ok-answer-in-Err c =
    not_asked (seen_task c.args.task.now) c.args.texts c.in-Err.fault c.in_ok-answer-in-Err.answer (rw (c.list.ensures, c.list-2.ensures) at c.in-Err.ensures.err) c.in_ok-answer-in-Err.ensures
