use Rattle.std.proofs.Common.{◌≡◌, ◌<◌, ℕ, length, subst, rules}
use Rattle.std.proofs.lemmas.Fn.{always_returns_same}
use Rattle.std.proofs.lemmas.List.Sorted.{All-permutation, ranks_by}
use Rattle.std.specs.Cmp.{nat_cmp_total}
use Rattle.std.specs.Ordering.{is_lt, nat_cmp}
use Rattle.lk_order.specs.Table.{rank_at}
use Rattle.lk_report.specs.Order.{sort_by}
use Rattle.lk_report.proofs.Sorting.{is_sorted}
use Rattle.lk_order.proofs.text.Lines.by_rank.Goals as goal

pub returns-clause-value : goal.returns-clause-value
returns-clause-value c =
    let order = c.args.self.now.order.now in
    let before = λ (q : ℕ) (r : ℕ). is_lt (nat_cmp (rank_at order q) (rank_at order r)) in
    let ordered = ranks_by nat_cmp_total (rank_at order) in
    let told = c.sort_by.new.self.items in
    let answers = always_returns_same _ (λ a r. is_lt r ≡ before a.0.now a.1.0.now) _ (λ a r q k. search rules) in
    subst (λ xs. told ≡ sort_by before xs) c.in_ok-places.ensures.value
    (is_sorted before ordered c.in_ok-places.places.items told (c.in_ok-sort_by.ensures.sorted before ordered answers) (c.in_ok-sort_by.ensures.stable before ordered answers))

pub returns-clause-in_range : goal.returns-clause-in_range
returns-clause-in_range c =
    All-permutation (λ q. q < length c.args.self.now.points.now.places) c.in_ok-places.places.items c.sort_by.new.self.items c.in_ok-sort_by.ensures.permutation c.in_ok-places.ensures.in_range
