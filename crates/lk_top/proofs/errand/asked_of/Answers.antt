use Rattle.std.proofs.Common.{◌∙◌, Err, IfErr, ap, subst, sym}
use Rattle.std.proofs.lemmas.Result.{err_from_is_err_and}
use Rattle.lk_words.specs.Seen.{seen_task}
use Rattle.lk_top.specs.Answer.{RefusesAsked, RefusesErrand}
use Rattle.lk_top.proofs.AnswerLemmas.{errand_refused, externs_refused}
use Rattle.lk_top.proofs.errand.asked_of.Goals as goal

pub returns-in_err-externs-clause-err : goal.returns-in_err-externs-clause-err
returns-in_err-externs-clause-err c =
    let p = err_from_is_err_and c.from_residual.result c.from_residual.ensures.1 in
    let task = seen_task c.args.task.now in
    let files = c.args.files.now in
    subst (λ result. IfErr result (RefusesAsked task files c.args.externs.now c.args.beside.now)) (sym (p.1 ∙ ap Err p.2))
    (externs_refused task files c.args.externs.now c.args.beside.now c.in_err-externs.field-0.0 c.in_err-externs.ensures.err)

pub returns-in_err-errand-clause-err : goal.returns-in_err-errand-clause-err
returns-in_err-errand-clause-err c =
    let p = err_from_is_err_and c.from_residual-in_err-errand.result c.from_residual-in_err-errand.ensures.1 in
    let task = seen_task c.args.task.now in
    let files = c.args.files.now in
    let fault = c.in_err-errand.field-0.0 in
    let told = subst (λ names. RefusesErrand task names c.args.beside.now fault) c.in_ok-externs.ensures.same c.in_err-errand.ensures.err in
    subst (λ result. IfErr result (RefusesAsked task files c.args.externs.now c.args.beside.now)) (sym (p.1 ∙ ap Err p.2))
    (errand_refused task files c.args.externs.now c.args.beside.now c.in_ok-externs.externs.items fault c.in_ok-externs.ensures.ok told)
