use Rattle.std.proofs.Common.{◌∙◌, ◌+◌, Err, IfErr, None, drop, sym, ap, subst}
use Rattle.std.proofs.lemmas.Result.{err_from_is_err_and}
use Rattle.lk_sources.specs.Calls.{IsSplitFault}
use Rattle.lk_sources.proofs.Lists.{left_at, none_left}
use Rattle.lk_sources.proofs.SplitsUpto.{Upto, upto_none, next_short, next_named, upto_tokens, upto_word, upto_stop, upto_refused, upto_split, upto_supported, upto_inside}
use Rattle.lk_sources.proofs.splitting.split_all.Goals as goal

pub loop-source-init : goal.loop-source-init
loop-source-init c =
    subst (λ lists. Upto c.args.files.now c.args.sources.now c.args.sources.now c.args.files.now lists None) (sym c.new-lists.ensures.items)
    (upto_none c.args.files.now c.args.sources.now c.requires.few c.requires.named)

pub split_source-requires-clause-few : goal.split_source-requires-clause-few
split_source-requires-clause-few c =
    next_short _ _ _ _ _ _ c.loop-source.invariant c.source-item.result (drop (c.loop-source.source-index + 1) c.args.sources.now)
    (left_at c.args.sources.now c.loop-source.source-index c.source-item.result c.loop-source-test.true c.source-item.is)

pub split_source-requires-clause-named : goal.split_source-requires-clause-named
split_source-requires-clause-named c =
    next_named _ _ _ _ _ _ c.loop-source.invariant c.source-item.result (drop (c.loop-source.source-index + 1) c.args.sources.now)
    (left_at c.args.sources.now c.loop-source.source-index c.source-item.result c.loop-source-test.true c.source-item.is)

pub returns-in_err-list-clause-err : goal.returns-in_err-list-clause-err
returns-in_err-list-clause-err c =
    let p = err_from_is_err_and c.from_residual.result c.from_residual.ensures.1 in
    subst (λ result. IfErr result (IsSplitFault c.args.files.now c.args.sources.now c.split_source.new.files)) (sym (p.1 ∙ ap Err p.2))
    (upto_stop _ _ _ _ _ _ c.loop-source.invariant c.source-item.result (drop (c.loop-source.source-index + 1) c.args.sources.now)
    (left_at c.args.sources.now c.loop-source.source-index c.source-item.result c.loop-source-test.true c.source-item.is) c.split_source.new.files c.in_err-list.field-0.0
    c.in_err-list.ensures.err)

pub loop-source-preserved-in-Tokens : goal.loop-source-preserved-in-Tokens
loop-source-preserved-in-Tokens c =
    let others = drop (c.loop-source.source-index + 1) c.args.sources.now in
    subst (λ lists. Upto c.args.files.now c.args.sources.now others c.split_source.new.files lists c.loop-source.word) (sym c.in_ok-push-in-Tokens.ensures.items)
    (upto_tokens _ _ _ _ _ _ c.loop-source.invariant c.source-item.result others
    (left_at c.args.sources.now c.loop-source.source-index c.source-item.result c.loop-source-test.true c.source-item.is) c.split_source.new.files c.in-Tokens.list c.in_ok-list.ensures.names
    (rw c.in-Tokens.is at c.in_ok-list.ensures.ok))

pub loop-source-preserved : goal.loop-source-preserved
loop-source-preserved c =
    let others = drop (c.loop-source.source-index + 1) c.args.sources.now in
    upto_word _ _ _ _ _ _ c.loop-source.invariant c.source-item.result others
    (left_at c.args.sources.now c.loop-source.source-index c.source-item.result c.loop-source-test.true c.source-item.is) c.split_source.new.files c.in-Word.refusal c.first_of-word.result
    c.in_ok-list.ensures.names (rw c.in-Word.is at c.in_ok-list.ensures.ok) c.first_of-word.ensures

pub returns-in-Some-clause-err : goal.returns-in-Some-clause-err
returns-in-Some-clause-err c =
    upto_refused _ _ _ _ _ _ c.loop-source.invariant (none_left c.args.sources.now c.loop-source.source-index c.loop-source-test.false) c.in-Some.refusal c.in-Some.is

pub returns-in-None-clause-ok : goal.returns-in-None-clause-ok
returns-in-None-clause-ok c = upto_split _ _ _ _ _ _ c.loop-source.invariant (none_left c.args.sources.now c.loop-source.source-index c.loop-source-test.false) c.in-None.is

pub returns-in-None-clause-supported : goal.returns-in-None-clause-supported
returns-in-None-clause-supported c = upto_supported _ _ _ _ _ _ c.loop-source.invariant (none_left c.args.sources.now c.loop-source.source-index c.loop-source-test.false) c.in-None.is

pub returns-in-None-clause-inside : goal.returns-in-None-clause-inside
returns-in-None-clause-inside c = upto_inside _ _ _ _ _ _ c.loop-source.invariant (none_left c.args.sources.now c.loop-source.source-index c.loop-source-test.false) c.in-None.is

pub returns-in-None-clause-filed : goal.returns-in-None-clause-filed
returns-in-None-clause-filed c = c.loop-source.invariant.filed

pub returns-in-Some-clause-stands : goal.returns-in-Some-clause-stands
returns-in-Some-clause-stands c = c.loop-source.invariant.word_in c.in-Some.refusal c.in-Some.is
