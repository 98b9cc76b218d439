use Rattle.std.proofs.Common.{refl, sym, ◌∙◌, ap, arith}
use Rattle.lk_lex.proofs.Firsts.{empty_first}
use Rattle.lk_lex.proofs.Quoting.{quoted_len-close, quoted_len-bad, quoted_len-on, quoted_len-end, more, more-more}
use Rattle.lk_lex.proofs.quoted.quoted_len.Goals as goal

pub returns-then-byte-eq34-clause-value : goal.returns-then-byte-eq34-clause-value
returns-then-byte-eq34-clause-value c =
    rw (c.loop-byte.invariant.count, quoted_len-close c.args.quotation c.loop-byte.rest.now c.in-Some.byte.now c.in-Some.ensures.value c.if-byte-eq34.true) refl

pub returns-in_err-item-clause-value : goal.returns-in_err-item-clause-value
returns-in_err-item-clause-value c =
    let bad = quoted_len-bad c.args.quotation c.loop-byte.rest.now c.in-Some.byte.now c.in-Some.ensures.value c.if-byte-eq34.false (sym c.item_in_front.ensures.value ∙ c.in_err-item.was) in
    rw (c.from_residual.ensures, c.loop-byte.invariant.count, bad) refl

pub loop-byte-preserved : goal.loop-byte-preserved
loop-byte-preserved c =
    let on = quoted_len-on c.args.quotation c.loop-byte.rest.now c.in-Some.byte.now c.in_ok-item.item c.in-Some.ensures.value c.if-byte-eq34.false
    (sym c.item_in_front.ensures.value ∙ c.in_ok-item.was) (omega (arith, c.in_ok-item.ensures.within)) (omega (arith, c.in_ok-item.ensures.within)) in
    record {
      count = rw c.split_at.ensures.back (c.loop-byte.invariant.count ∙ ap (more c.loop-byte.len) on ∙ more-more c.loop-byte.len c.in_ok-item.item.len _);
      left = omega (arith, c.split_at.ensures.back_len, c.loop-byte.invariant.left);
    }

pub returns-clause-value : goal.returns-clause-value
returns-clause-value c =
    rw (c.loop-byte.invariant.count, quoted_len-end c.args.quotation c.loop-byte.rest.now (empty_first c.loop-byte.rest.now c.in_default.ensures.value)) refl
