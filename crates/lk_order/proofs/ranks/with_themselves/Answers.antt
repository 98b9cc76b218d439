use Rattle.std.proofs.Common.{◌≡◌, ◌∙◌, false, sym, inl, inr, arith}
use Rattle.std.proofs.lemmas.Bool.{cases_lt, false_from_ne_true}
use Rattle.std.proofs.lemmas.List.{get_or_past}
use Rattle.lk_sets.specs.Rows.{has}
use Rattle.lk_order.proofs.ranks.with_themselves.Goals as goal

pub returns : goal.returns
returns c = λ q.
    let rows = c.args.rows.now in
    let end : c.loop-place.place ≡ rows.size = omega (arith, c.loop-place.auto.place-end, c.loop-place-test.false, c.size-place-end.ensures.value) in
    elim (cases_lt q c.loop-place.place) [
      | inl within ↦ c.loop-place.invariant.each q within
      | inr past ↦
          get_or_past c.loop-place.cycles.items q false (omega (arith, past, c.loop-place.invariant.long))
          ∙ sym (false_from_ne_true (has rows q q) (λ there. let inside = (c.size-place-end.ensures.square.within q q there).0 in absurd (omega (arith, inside, past, end))))
    ]
