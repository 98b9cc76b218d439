use Rattle.std.proofs.Common.{◌<◌, All, length, subst, sym}
use Rattle.lk_held.proofs.CallLemmas.{all_within}
use Rattle.lk_held.proofs.acts.Acts.order.Goals as goal

pub ends_first-requires : goal.ends_first-requires
ends_first-requires c =
    subst (λ n. All (λ f. f < n) c.deref.result.now) (sym c.in_ok-calls.ensures)
    (subst (All (λ f. f < length c.args.self.now.points.now.functions)) (sym c.deref.ensures.value) c.in_ok-functions.ensures.below)

pub in_order_of-requires : goal.in_order_of-requires
in_order_of-requires c = all_within _ _ _ _ c.deref-2.ensures.value c.in_ok-calls.ensures c.in_ok-callees_first.ensures
