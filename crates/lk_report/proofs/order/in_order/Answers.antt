use Rattle.std.proofs.Common.{◌≡◌, ◌∙◌, sym, subst, rules}
use Rattle.std.proofs.lemmas.Fn.{always_returns_same}
use Rattle.std.specs.List.Sorted.{IsPermutation}
use Rattle.std.specs.Ordering.{is_lt}
use Rattle.lk_report.specs.Order.{is_told_before, sort_by}
use Rattle.lk_report.proofs.Orders.{accesses_are_ordered}
use Rattle.lk_report.proofs.Sorting.{is_sorted}
use Rattle.lk_report.proofs.order.in_order.Goals as goal

pub returns-clause-value : goal.returns-clause-value
returns-clause-value c =
    let before = is_told_before c.args.points.now in
    let ordered = accesses_are_ordered c.args.points.now in
    let told = c.sort_by.new.self.items in
    let answers = always_returns_same _ (λ a r. is_lt r ≡ before a.0.now a.1.0.now) _ (λ a r q k. search rules) in
    subst (λ xs. told ≡ sort_by before xs) c.in_ok-told.ensures
    (is_sorted before ordered c.in_ok-told.told.items told (c.in_ok-sort_by.ensures.sorted before ordered answers) (c.in_ok-sort_by.ensures.stable before ordered answers))

pub returns-clause-permutation : goal.returns-clause-permutation
returns-clause-permutation c = subst (λ xs. IsPermutation xs c.sort_by.new.self.items) c.in_ok-told.ensures c.in_ok-sort_by.ensures.permutation
