use Rattle.std.proofs.Common.{◌∙◌, Err, IfErr, sym, ap, subst}
use Rattle.std.proofs.lemmas.Result.{err_from_is_err_and}
use Rattle.lk_lex.specs.Answer.{IsRefused}
use Rattle.lk_lex.specs.Lengths.{IsStop}
use Rattle.lk_lex.specs.Tokens.{start_of}
use Rattle.lk_sources.specs.Calls.{IsSplit}
use Rattle.lk_sources.proofs.SplitsUpto.{stop_found, word_found}
use Rattle.lk_sources.proofs.splitting.split_as.Goals as goal

pub returns-in_err-split-in-Err-Refused-clause-err : goal.returns-in_err-split-in-Err-Refused-clause-err
returns-in_err-split-in-Err-Refused-clause-err c =
    let p = err_from_is_err_and c.from_residual.result c.from_residual.ensures.1 in
    let names = c.args.files.now in
    let last = c.tokens.new.files in
    let bytes = c.args.source.now.bytes in
    let told = rw c.in-Err-Refused.field-0-is at c.in-Err-Refused.ensures.err in
    let refused = subst (λ b. IsRefused names c.args.own b last c.in-Err-Refused.refusal) c.list.ensures told.0 in
    let same = c.in_err-split-in-Err-Refused.ensures.err in
    subst (λ result. IfErr result (IsStop names (start_of c.args.own) bytes last)) (sym (p.1 ∙ ap Err p.2))
    (subst (IsStop names (start_of c.args.own) bytes last) (sym same.0) (stop_found names c.args.own bytes last c.in-Err-Refused.refusal refused same.1))

pub returns-in_ok-split-in-Err-Refused-clause-ok : goal.returns-in_ok-split-in-Err-Refused-clause-ok
returns-in_ok-split-in-Err-Refused-clause-ok c =
    let names = c.args.files.now in
    let last = c.tokens.new.files in
    let told = rw c.in-Err-Refused.field-0-is at c.in-Err-Refused.ensures.err in
    let refused = subst (λ b. IsRefused names c.args.own b last c.in-Err-Refused.refusal) c.list.ensures told.0 in
    let same = c.in_ok-split-in-Err-Refused.ensures.ok in
    subst (IsSplit names c.args.own c.args.source.now last) (sym same.0) (word_found names c.args.own c.args.source.now last c.in-Err-Refused.refusal refused told.1 same.1)
