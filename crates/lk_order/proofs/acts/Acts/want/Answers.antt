use Rattle.std.proofs.Common.{◌≡◌, ◌↔◌, ℕ, true, subst, sym, ◌∙◌}
use Rattle.std.proofs.lemmas.Result.{IfOk-weaker}
use Rattle.lk_order.specs.Acts.{basis_in, linear_in}
use Rattle.lk_order.specs.Giving.{Gives, Has}
use Rattle.lk_order.specs.declared.giving.By.TheVariants.{Functions}
use Rattle.lk_order.proofs.WantingLemmas.{wanted_more}
use Rattle.lk_sets.specs.Ids.{has_id}
use Rattle.lk_order.proofs.acts.Acts.want.Goals as goal

pub returns : goal.returns
returns c =
    let self = c.args.self.now in
    let basis = basis_in self in
    let gives = subst (λ sets. (x : ℕ) → (has_id c.in_ok-ids.ids x ≡ true) ↔ Gives basis (Has basis.program Functions sets) c.args.point x) c.deref.ensures.value c.in_ok-ids.ensures.members in
    let within = c.function.ensures.live_in_range (sym c.live.ensures ∙ c.if-not-live.false) in
    IfOk-weaker c.add.result _ _ (λ changed joins.
    wanted_more basis (linear_in self) c.args.wants.now.items c.add.new.sets.items c.args.point c.function.result c.in_ok-ids.ids changed
    within c.requires.wants c.function.ensures.value gives c.in_ok-ids.ensures.in_range joins)
    c.add.ensures
