use Rattle.std.proofs.Common.{sym, ◌∙◌}
use Rattle.std.proofs.lemmas.Result.{err_from_is_err_and}
use Rattle.lk_lex.proofs.Inside.{splits_inside, are_tokens_of}
use Rattle.lk_lex.proofs.Telling.{stop_fault, word_fault, refused_short}
use Rattle.lk_lex.proofs.tokens.Goals as goal

pub returns-in_err-list-clause-err : goal.returns-in_err-list-clause-err
returns-in_err-list-clause-err c =
    let p = err_from_is_err_and c.from_residual.result c.from_residual.ensures.1 in
    rw (p.1, p.2) (stop_fault c.args.files.now c.split.new.files c.args.own c.args.b.now c.in_err-list.field-0.0 c.requires.own c.in_err-list.ensures.err)

pub first_refused-requires : goal.first_refused-requires
first_refused-requires c = rw c.deref.ensures.value (splits_inside c.in_ok-list.ensures.ok)

pub refused-requires : goal.refused-requires
refused-requires c =
    rw c.text_of.ensures.value (refused_short c.args.b.now c.deref.result.now c.in-Some.token (sym c.first_refused.ensures.value ∙ c.in-Some.is) c.in-Some.ensures.inside)

pub returns-in-Some-clause-err : goal.returns-in-Some-clause-err
returns-in-Some-clause-err c =
    let found = sym c.first_refused.ensures.value ∙ c.in-Some.is in
    word_fault c.args.files.now c.split.new.files c.args.own c.args.b.now c.in_ok-list.list.items c.in-Some.token c.refused.result c.requires.own c.in_ok-list.ensures.ok
    (rw c.deref.ensures.value at found) (rw c.text_of.ensures.value at c.refused.ensures)

pub returns-in-None-clause-list : goal.returns-in-None-clause-list
returns-in-None-clause-list c =
    let none = sym c.first_refused.ensures.value ∙ c.in-None.is in
    are_tokens_of c.requires.own (record { split = c.in_ok-list.ensures.ok; supported = rw c.deref.ensures.value at none })
