use Rattle.std.proofs.Common.{◌≡◌, ◌<◌, true, ap, length, ◌∙◌, subst, rules}
use Rattle.std.specs.List.{flat_map}
use Rattle.std.proofs.lemmas.List.{take_all}
use Rattle.lk_facts.specs.Origins.{flow_of, AreOriginsInRange}
use Rattle.lk_sets.specs.Rows.{IsSquare}
use Rattle.lk_links.specs.Only.{AreOver, over_list}
use Rattle.lk_links.proofs.OverLemmas.{outside_members, over_within}
use Rattle.lk_links.proofs.SetLemmas.{Lists-set, All-set}
use Rattle.lk_links.proofs.over.outside.Goals as goal

pub returns-clause-exact : goal.returns-clause-exact
returns-clause-exact c =
    let origins = c.args.facts.now.origins in
    Lists-set (AreOver (flow_of origins) c.args.way.now c.args.labels.now) c.loop-x.ids.items c.in_ok-set.set (search rules)
    (outside_members origins c.args.way.now c.args.labels.now c.loop-x.ids.items (c.loop-x.invariant ∙ ap (flat_map (over_list origins c.args.way.now)) (take_all c.loop-x.x-index c.args.labels.now c.loop-x-test.false)))

pub returns-clause-in_range : goal.returns-clause-in_range
returns-clause-in_range c =
    let origins = c.args.facts.now.origins in
    All-set (λ m. m < length c.args.facts.now.labels.entries) c.loop-x.ids.items c.in_ok-set.set (search rules)
    (λ m there.
    let found = (outside_members origins c.args.way.now c.args.labels.now c.loop-x.ids.items (c.loop-x.invariant ∙ ap (flat_map (over_list origins c.args.way.now)) (take_all c.loop-x.x-index c.args.labels.now c.loop-x-test.false)) m).0 there in
    subst (λ n. m < n) c.origins.ensures.agree.origins (over_within origins (subst AreOriginsInRange c.origins.ensures.value c.labels.ensures.in_range) (subst (λ o. IsSquare o.all) c.origins.ensures.value c.labels.ensures.all) (subst (λ o. IsSquare o.inner) c.origins.ensures.value c.labels.ensures.inner) c.args.way.now found.0 m found.2))
