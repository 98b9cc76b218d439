use Rattle.std.proofs.Common.{◌≡◌, ◌↔◌, ℕ, true, subst, sym, ◌∙◌}
use Rattle.std.proofs.lemmas.Result.{IfOk-weaker}
use Rattle.lk_order.specs.Acquiring.{IsAfter}
use Rattle.lk_order.specs.Acts.{basis_in, linear_in}
use Rattle.lk_order.proofs.AcquiringLemmas.{acquired_more}
use Rattle.lk_sets.specs.Ids.{has_id}
use Rattle.lk_order.proofs.acts.Acts.acquire.Goals as goal

pub returns : goal.returns
returns c =
    let self = c.args.self.now in
    let basis = basis_in self in
    let after = subst (λ sets. (x : ℕ) → (has_id c.in_ok-after.after x ≡ true) ↔ IsAfter basis (linear_in self) sets c.args.point x) c.deref.ensures.value c.in_ok-after.ensures.members in
    IfOk-weaker c.add_each.result _ _ (λ changed step.
    acquired_more basis (linear_in self) c.args.point c.next.result.now c.in_ok-after.after c.args.acquired.now.items c.add_each.new.acquired.items changed
    (sym c.live.ensures ∙ c.if-not-live.false) c.next.ensures.value after step)
    c.add_each.ensures
