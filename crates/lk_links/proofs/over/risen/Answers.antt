use Rattle.std.proofs.Common.{◌≡◌, ◌<◌, ◌↔◌, ℕ, true, ap, length, ◌∙◌, subst, sym, ⊎_elim, inl, inr, rules}
use Rattle.std.proofs.lemmas.List.{take_all}
use Rattle.lk_facts.specs.Flow.{RisesAs}
use Rattle.lk_facts.specs.Origins.{flow_of, AreOriginsInRange}
use Rattle.lk_sets.specs.Rows.{IsSquare}
use Rattle.lk_sets.specs.Ids.{has_id}
use Rattle.lk_links.specs.Only.{HaveRisen}
use Rattle.lk_links.proofs.OverLemmas.{risen_within, risen_more, none_risen}
use Rattle.lk_links.proofs.SetLemmas.{Lists-set, All-set, related_more}
use Rattle.lk_links.proofs.over.risen.Goals as goal
use Rattle.lk_links.proofs.over.risen.Goals.{in-Some+in_ok-push, in_default}

pub loop-x-preserved : goal.loop-x-preserved
loop-x-preserved c =
    related_more (RisesAs (flow_of c.args.facts.now.origins) c.args.way.now) c.args.locks.now c.loop-x.x-index 0 c.loop-x.ids.items c.match-rises_as.ids.items
    c.loop-x-test.true
    (elim c.match-rises_as.branch [
      | in-Some+in_ok-push w ↦ risen_more (flow_of c.args.facts.now.origins) c.args.way.now _ w.in-Some.y c.loop-x.ids.items c.match-rises_as.ids.items w.in-Some.ensures.value (ap (λ v. v.items) w.ids-is ∙ w.in_ok-push.ensures.items)
      | in_default w ↦ none_risen (flow_of c.args.facts.now.origins) c.args.way.now _ c.loop-x.ids.items c.match-rises_as.ids.items w.in_default.ensures.value (ap (λ v. v.items) w.ids-is)
    ])
    c.loop-x.invariant

pub returns-clause-exact : goal.returns-clause-exact
returns-clause-exact c =
    Lists-set (HaveRisen (flow_of c.args.facts.now.origins) c.args.way.now c.args.locks.now) c.loop-x.ids.items c.in_ok-set.set (search rules)
    (subst (λ ids. (y : ℕ) → (has_id c.loop-x.ids.items y ≡ true) ↔ HaveRisen (flow_of c.args.facts.now.origins) c.args.way.now ids y) (take_all c.loop-x.x-index c.args.locks.now c.loop-x-test.false) c.loop-x.invariant)

pub returns-clause-in_range : goal.returns-clause-in_range
returns-clause-in_range c =
    let origins = c.args.facts.now.origins in
    All-set (λ y. y < length c.args.facts.now.labels.entries) c.loop-x.ids.items c.in_ok-set.set (search rules)
    (λ y there.
    let found = (c.loop-x.invariant y).0 there in
    subst (λ n. y < n) c.origins.ensures.agree.origins (risen_within origins (subst AreOriginsInRange c.origins.ensures.value c.labels.ensures.in_range) (subst (λ o. IsSquare o.all) c.origins.ensures.value c.labels.ensures.all) (subst (λ o. IsSquare o.inner) c.origins.ensures.value c.labels.ensures.inner) c.args.way.now found.0 y found.2))
