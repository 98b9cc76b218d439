use Rattle.std.proofs.Common.{◌≡◌, ◌↔◌, ◌∙◌, ℕ, All, true, false, get_or, ap, sym, subst}
use Rattle.std.proofs.lemmas.Bool.{false_from_ne_true, false≢true}
use Rattle.lk_order.specs.Ranking.{AreBefore, AreRanksBy, IsPairWithin}
use Rattle.lk_order.specs.Table.{IsOrder}
use Rattle.lk_order.proofs.TableLemmas.{order_is}
use Rattle.lk_sets.specs.Rows.{has}
use Rattle.lk_order.proofs.finding.order_of.Goals as goal

pub ranks_of-requires : goal.ranks_of-requires
ranks_of-requires c =
    let before = c.in_ok-before.before in
    let first = c.in_ok-before.ensures in
    let same = c.deref.ensures.value ∙ sym c.deref-3.ensures.value in
    record {
      before = subst (λ n. AreBefore c.deref-3.result.now n before) (sym first.size) (subst (λ pairs. AreBefore pairs c.size.result before) same first);
      acyclic = λ not q.
          false_from_ne_true (has before q q) (λ there. false≢true (sym not ∙ c.some_on-cyclic.ensures.1 (q, ap (λ cycles. get_or cycles q false) c.deref-2.ensures.value ∙ c.in_ok-cycles.ensures q ∙ there)));
      within = subst (λ n. All (IsPairWithin n) c.deref-3.result.now) (sym (first.size ∙ c.size.ensures.value)) (subst (All (IsPairWithin c.args.rows.now.size)) (sym c.deref-3.ensures.value) c.in_ok-pairs.ensures.in_range);
    }

pub returns : goal.returns
returns c = λ basis linear are.
    let pairs = c.in_ok-pairs.pairs.items in
    let before = c.in_ok-before.before in
    let cycles = c.in_ok-cycles.cycles.items in
    let cyclic = c.some_on-cyclic.result in
    let first = subst (λ n. AreBefore pairs n before) c.size.ensures.value (subst (λ ps. AreBefore ps c.size.result before) c.deref.ensures.value c.in_ok-before.ensures) in
    let some = subst (λ on. (cyclic ≡ true) ↔ ((q : ℕ) × (get_or on q false ≡ true))) c.deref-2.ensures.value c.some_on-cyclic.ensures in
    subst (IsOrder basis linear) (sym c.new.ensures)
    (order_is c.args.rows.now pairs before cycles cyclic c.in_ok-ranks.ranks.items c.in_ok-pairs.ensures.ascending c.in_ok-pairs.ensures.pairs first c.in_ok-cycles.ensures some
    (λ not. subst (λ ps. AreRanksBy ps c.in_ok-ranks.ranks.items) c.deref-3.ensures.value (c.in_ok-ranks.ensures not)) basis linear are)
