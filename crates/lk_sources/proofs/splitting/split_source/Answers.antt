use Rattle.std.proofs.Common.{◌∙◌, Err, IfErr, sym, ap, subst}
use Rattle.std.proofs.lemmas.Result.{err_from_is_err_and}
use Rattle.lk_lex.specs.Answer.{Extends}
use Rattle.lk_lex.specs.Lengths.{IsStop}
use Rattle.lk_lex.specs.Tokens.{start_of}
use Rattle.lk_sources.specs.Calls.{IsSplit}
use Rattle.lk_sources.specs.Numbers.{number_of}
use Rattle.lk_sources.proofs.SplitsUpto.{at_its_number}
use Rattle.lk_sources.proofs.splitting.split_source.Goals as goal

pub returns-in_err-split-clause-err : goal.returns-in_err-split-clause-err
returns-in_err-split-clause-err c =
    let p = err_from_is_err_and c.from_residual-in_err-split.result c.from_residual-in_err-split.ensures.1 in
    let name = c.args.source.now.name in
    let bytes = c.args.source.now.bytes in
    let last = c.split_as.new.files in
    subst (λ result. IfErr result (IsStop c.args.files.now (start_of (number_of c.args.files.now name)) bytes last)) (sym (p.1 ∙ ap Err p.2))
    (at_its_number (λ names own. IsStop names (start_of own) bytes last c.in_err-split.field-0.0) c.args.files.now c.put_name.new.files name c.in_ok-own.own c.requires.named
    (rw c.bytes.ensures.value at c.in_ok-own.ensures.ok) (rw c.bytes.ensures.value at c.in_ok-own.ensures.number) c.in_err-split.ensures.err)

pub returns-clause-ok : goal.returns-clause-ok
returns-clause-ok c =
    at_its_number (λ names own. IsSplit names own c.args.source.now c.split_as.new.files c.in_ok-split.split) c.args.files.now c.put_name.new.files c.args.source.now.name c.in_ok-own.own c.requires.named
    (rw c.bytes.ensures.value at c.in_ok-own.ensures.ok) (rw c.bytes.ensures.value at c.in_ok-own.ensures.number) c.in_ok-split.ensures.ok

pub returns-clause-names : goal.returns-clause-names
returns-clause-names c =
    at_its_number (λ names own. Extends names c.split_as.new.files) c.args.files.now c.put_name.new.files c.args.source.now.name c.in_ok-own.own c.requires.named
    (rw c.bytes.ensures.value at c.in_ok-own.ensures.ok) (rw c.bytes.ensures.value at c.in_ok-own.ensures.number) c.split_as.ensures.names
