use Rattle.std.proofs.Common.{◌∙◌, ◌∷◌, [], Err, IfErr, sym, ap, subst}
use Rattle.std.proofs.lemmas.Result.{err_from_is_err_and}
use Rattle.lk_sources.specs.Judging.{IsFaulty}
use Rattle.lk_sources.proofs.FaultsUpto.{faulty_one}
use Rattle.lk_sources.proofs.checking.check_source.Goals as goal

pub returns-in_err-checked-clause-err : goal.returns-in_err-checked-clause-err
returns-in_err-checked-clause-err c =
    let p = err_from_is_err_and c.from_residual.result c.from_residual.ensures.1 in
    subst (λ result. IfErr result (IsFaulty c.args.externs.now (c.args.parsed.unit ∷ []))) (sym (p.1 ∙ ap Err p.2))
    (faulty_one c.args.externs.now c.args.parsed.unit c.in_err-checked.field-0.0 c.in_err-checked.ensures.err)
