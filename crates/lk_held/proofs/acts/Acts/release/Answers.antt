use Rattle.std.proofs.Common.{◌≡◌, ◌↔◌, ℕ, true, subst, sym, ◌∙◌}
use Rattle.std.proofs.lemmas.Result.{IfOk-weaker}
use Rattle.lk_facts.specs.Held.{Drops}
use Rattle.lk_held.specs.Acts.{basis_in}
use Rattle.lk_held.specs.Releasing.{Releases}
use Rattle.lk_held.proofs.ReleasingLemmas.{released_more}
use Rattle.lk_sets.specs.Ids.{has_id}
use Rattle.lk_held.proofs.acts.Acts.release.Goals as goal

pub returns : goal.returns
returns c =
    let basis = basis_in c.args.self.now in
    let drops = subst (λ sets. (x : ℕ) → (has_id c.in_ok-ids.ids x ≡ true) ↔ Drops basis (Releases sets) c.args.point x) c.deref.ensures.value c.in_ok-ids.ensures.members in
    let within = c.function.ensures.live_in_range (sym c.live.ensures ∙ c.if-not-live.false) in
    IfOk-weaker c.add.result _ _ (λ changed joins.
    released_more basis c.args.released.now.items c.add.new.sets.items c.args.point c.function.result c.in_ok-ids.ids changed
    within c.requires.released c.function.ensures.value drops c.in_ok-ids.ensures.in_range joins)
    c.add.ensures
