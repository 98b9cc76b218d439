use Rattle.std.proofs.Common.{sym, ◌∙◌, ap, ◌++◌, List, ℕ, [], ◌∷◌, append_assoc, arith}
use Rattle.std.proofs.lemmas.List.{append-nil}
use Rattle.lk_lex.proofs.Firsts.{empty_first}
use Rattle.lk_lex.proofs.Quoting.{extends_more, quoted_bytes-close, quoted_bytes-bad, quoted_bytes-on, quoted_bytes-end}
use Rattle.lk_lex.proofs.quoted.push_quoted.Goals as goal

abbrev behind : List ℕ → List ℕ → List ℕ
behind name rest = name ++ rest

pub returns-then-byte-eq34-clause-ok : goal.returns-then-byte-eq34-clause-ok
returns-then-byte-eq34-clause-ok c =
    sym (c.loop-byte.invariant.value ∙ ap (behind c.loop-byte.out.items) (quoted_bytes-close c.args.quotation c.loop-byte.rest.now c.in-Some.byte.now c.in-Some.ensures.value c.if-byte-eq34.true) ∙ append-nil _)

pub returns-in_default-item_in_front-clause-ok : goal.returns-in_default-item_in_front-clause-ok
returns-in_default-item_in_front-clause-ok c =
    let bad = quoted_bytes-bad c.args.quotation c.loop-byte.rest.now c.in-Some.byte.now c.in-Some.ensures.value c.if-byte-eq34.false (sym c.item_in_front.ensures.value ∙ c.in_default-item_in_front.is) in
    sym (c.loop-byte.invariant.value ∙ ap (behind c.loop-byte.out.items) bad ∙ append-nil _)

pub loop-byte-preserved : goal.loop-byte-preserved
loop-byte-preserved c =
    let on = quoted_bytes-on c.args.quotation c.loop-byte.rest.now c.in-Some.byte.now c.in-Some-item_in_front.item c.in-Some.ensures.value c.if-byte-eq34.false
    (sym c.item_in_front.ensures.value ∙ c.in-Some-item_in_front.is) (omega (arith, c.in-Some-item_in_front.ensures.within)) in
    rw (c.in_ok-push.ensures.items, c.split_at.ensures.back) (record {
      value = c.loop-byte.invariant.value ∙ ap (behind c.loop-byte.out.items) on ∙ sym (append_assoc c.loop-byte.out.items (c.in-Some-item_in_front.item.value ∷ []) _);
      kept = extends_more c.args.out.now.items c.loop-byte.out.items c.in-Some-item_in_front.item.value c.loop-byte.invariant.kept;
    })

pub returns-clause-ok : goal.returns-clause-ok
returns-clause-ok c =
    sym (c.loop-byte.invariant.value ∙ ap (behind c.loop-byte.out.items) (quoted_bytes-end c.args.quotation c.loop-byte.rest.now (empty_first c.loop-byte.rest.now c.in_default.ensures.value)) ∙ append-nil _)
