use Rattle.std.proofs.Common.{◌≡◌, subst}
use Rattle.lk_sources.specs.Accepting.{RefusesExterns}
use Rattle.lk_sources.specs.Externs.{Names, externs_text, listed}
use Rattle.lk_confirm.specs.Answer.{JudgesListed}
use Rattle.lk_confirm.proofs.AnswerLemmas.{judged_externs, judged_listed}
use Rattle.lk_confirm.proofs.answer.judge.Goals as goal

pub returns-in-Ok : goal.returns-in-Ok
returns-in-Ok c =
    let texts = c.args.texts in
    let answer = c.in_ok-answer-in-Ok.answer in
    let listing = c.in-Ok.names.items in
    let listed_so = subst (λ e. listed (externs_text e) ≡ Names listing) c.list.ensures c.in-Ok.ensures.ok in
    judged_listed texts.files texts.externs texts.sources listing listed_so answer
    (subst (λ f. JudgesListed f listing texts.sources answer) c.in-Ok.ensures.same
    (subst (λ s. JudgesListed c.listed_names.new.files listing s answer) c.list-in-Ok.ensures c.in_ok-answer-in-Ok.ensures))

pub returns : goal.returns
returns c =
    let texts = c.args.texts in
    judged_externs texts.files texts.externs texts.sources c.in-Err.fault c.in_ok-answer-in-Err.answer
    (subst (λ e. RefusesExterns texts.files e c.in-Err.fault) c.list.ensures c.in-Err.ensures.err) c.in_ok-answer-in-Err.ensures
