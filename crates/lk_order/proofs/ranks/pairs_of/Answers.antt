use Rattle.std.proofs.Common.{◌≡◌, ◌∙◌, ◌++◌, ◌↔◌, All, Contains, true, map, ap, sym, subst, arith}
use Rattle.std.specs.List.{flat_map, range_with_len}
use Rattle.lk_order.specs.Ranking.{IsPairWithin}
use Rattle.lk_order.specs.Table.{AreAscending, pair_of}
use Rattle.lk_order.proofs.OrderLemmas.{below_all, below_ascending, below_more, below_within, pairs_in}
use Rattle.lk_sets.specs.Rows.{has}
use Rattle.lk_order.proofs.ranks.pairs_of.Goals as goal

pub loop-held-preserved : goal.loop-held-preserved
loop-held-preserved c =
    let rows = c.args.rows.now in
    let held = c.loop-held.held in
    let wanted = c.deref.ensures.value ∙ c.in_ok-wanted.ensures in
    c.in_ok-push_pairs.ensures ∙ ap (λ pairs. pairs ++ map (pair_of held) c.deref.result.now) c.loop-held.invariant ∙ ap (λ ids. flat_map (pairs_in rows) (range_with_len 0 held) ++ map (pair_of held) ids) wanted ∙ sym (below_more rows c.size-held-end.ensures.square held)

pub returns-clause-ascending : goal.returns-clause-ascending
returns-clause-ascending c =
    let rows = c.args.rows.now in
    subst AreAscending (sym c.loop-held.invariant) (below_ascending rows c.size-held-end.ensures.square c.loop-held.held)

pub returns-clause-pairs : goal.returns-clause-pairs
returns-clause-pairs c = λ q r.
    let rows = c.args.rows.now in
    let end : c.loop-held.held ≡ rows.size = omega (arith, c.loop-held.auto.held-end, c.loop-held-test.false, c.size-held-end.ensures.value) in
    subst (λ pairs. Contains pairs (pair_of q r) ↔ (has rows q r ≡ true)) (sym (c.loop-held.invariant ∙ ap (λ n. flat_map (pairs_in rows) (range_with_len 0 n)) end)) (below_all rows c.size-held-end.ensures.square q r)

pub returns-clause-in_range : goal.returns-clause-in_range
returns-clause-in_range c =
    let rows = c.args.rows.now in
    let end : c.loop-held.held ≡ rows.size = omega (arith, c.loop-held.auto.held-end, c.loop-held-test.false, c.size-held-end.ensures.value) in
    subst (All (IsPairWithin rows.size)) (sym (c.loop-held.invariant ∙ ap (λ n. flat_map (pairs_in rows) (range_with_len 0 n)) end)) (below_within rows c.size-held-end.ensures.square)
