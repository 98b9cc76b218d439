use Rattle.std.proofs.Common.{sym, ◌∙◌}
use Rattle.lk_lex.proofs.Splitting.{upto_gap, upto_mark, upto_token, upto_end, upto_nothing, upto_broken, stop_told, not_empty, is_empty}
use Rattle.lk_lex.proofs.split.split.Goals as goal

pub returns-in-Nothing-clause-err : goal.returns-in-Nothing-clause-err
returns-in-Nothing-clause-err c =
    let some = not_empty c.loop-rest.rest.now c.is_empty.result c.is_empty.ensures c.loop-rest-test.true in
    stop_told c.refused.result c.refused.ensures (upto_nothing c.loop-rest.invariant some (sym c.in_ok-cut.ensures.value ∙ c.in-Nothing.is))

pub returns-in-Broken-clause-err : goal.returns-in-Broken-clause-err
returns-in-Broken-clause-err c =
    let some = not_empty c.loop-rest.rest.now c.is_empty.result c.is_empty.ensures c.loop-rest-test.true in
    stop_told c.refused-in-Broken.result c.refused-in-Broken.ensures (upto_broken c.loop-rest.invariant some (sym c.in_ok-cut.ensures.value ∙ c.in-Broken.is))

pub loop-rest-preserved-in-Gap : goal.loop-rest-preserved-in-Gap
loop-rest-preserved-in-Gap c =
    rw (c.after-place.ensures, c.split_at.ensures.front, c.split_at.ensures.back)
    (upto_gap c.loop-rest.invariant c.in-Gap.len (rw c.in-Gap.is at c.in_ok-cut.ensures.within) (sym c.in_ok-cut.ensures.value ∙ c.in-Gap.is))

pub loop-rest-preserved-in-Mark : goal.loop-rest-preserved-in-Mark
loop-rest-preserved-in-Mark c =
    let within = rw c.in-Mark.is at c.in_ok-cut.ensures.within in
    rw (c.in_ok-file-in-Mark.ensures.ok, c.marked-place.ensures, c.in_ok-file-in-Mark.ensures.value, c.after-behind.ensures, c.split_at-in-Mark.ensures.front, c.split_at-in-Mark.ensures.back)
    (upto_mark c.loop-rest.invariant c.in-Mark.len c.in-Mark.mark within.0 within.1 (sym c.in_ok-cut.ensures.value ∙ c.in-Mark.is))

pub loop-rest-preserved : goal.loop-rest-preserved
loop-rest-preserved c =
    rw (c.in_ok-push-in-Token.ensures.items, c.token_at.ensures, c.after-behind-in-Token.ensures, c.split_at-in-Token.ensures.front, c.split_at-in-Token.ensures.back)
    (upto_token c.loop-rest.invariant c.in-Token.len c.in-Token.kind (rw c.in-Token.is at c.in_ok-cut.ensures.within) (sym c.in_ok-cut.ensures.value ∙ c.in-Token.is))

pub returns-clause-ok : goal.returns-clause-ok
returns-clause-ok c =
    rw (c.in_ok-push.ensures.items, c.token_at-2.ensures) (upto_end c.loop-rest.invariant (is_empty c.loop-rest.rest.now c.is_empty.result c.is_empty.ensures c.loop-rest-test.false))
