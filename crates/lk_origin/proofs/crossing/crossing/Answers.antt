use Rattle.std.proofs.Common.{◌≡◌, ◌↔◌, true, get_or, length, sym, subst, arith, List, ℕ}
use Rattle.lk_facts.specs.Origins.{outside_of, IsCrossingInRange}
use Rattle.lk_origin.specs.Crossings.{LeadsInto}
use Rattle.lk_sets.specs.Adding.{IsGiven}
use Rattle.lk_sets.specs.Ids.{has_id}
use Rattle.lk_origin.proofs.CrossingLemmas.{Pairing, pairing_more, paired_within, paired_members, set_below, outside_below}
use Rattle.lk_origin.proofs.InflowLemmas.{inflows_lead}
use Rattle.lk_origin.proofs.crossing.crossing.Goals as goal

pub loop-label-preserved : goal.loop-label-preserved
loop-label-preserved c =
    let levels = c.args.levels.now in
    let entrances = c.args.entrances.now in
    let label : ℕ = get_or c.ids-label-items.result.now c.loop-label.label-index 0 in
    let ids = c.in_ok-labels.labels in
    let members = inflows_lead levels entrances c.in_ok-inflows.inflows.items c.deref.result.now ids label c.in_ok-inflows.ensures.each c.deref.ensures.value c.in_ok-labels.ensures.each in
    let below = set_below levels.size ids c.in_ok-labels.ensures.sorted members (outside_below levels entrances label c.requires) in
    pairing_more c.loop-label.label-index ids c.in_ok-push.ensures.items below members c.loop-label.invariant

paired : (c : goal.After-drop-inflows-2) → Pairing c.args.levels.now c.args.entrances.now c.in_ok-inside.inside c.loop-label.outside.items (length c.in_ok-inside.inside)
paired c =
    let levels = c.args.levels.now in
    let entrances = c.args.entrances.now in
    let outside = c.loop-label.outside.items in
    let full : c.loop-label.label-index ≡ length c.ids-label-items.result.now = omega (arith, c.loop-label.auto.label-index-end) in
    let shown = subst (λ k. Pairing levels entrances c.ids-label-items.result.now outside k) full c.loop-label.invariant in
    subst (λ (xs : List ℕ). Pairing levels entrances xs outside (length xs)) c.ids-label-items.ensures.list shown

pub returns-clause-within : goal.returns-clause-within
returns-clause-within c =
    subst (λ (o : List (List ℕ)). IsCrossingInRange c.args.levels.now.size (record { inside = c.in_ok-inside.inside; outside = o })) (sym c.new.ensures)
    (paired_within c.args.levels.now c.args.entrances.now c.in_ok-inside.inside c.loop-label.outside.items c.in_ok-inside.ensures.within c.in_ok-inside.ensures.each (paired c))

pub returns-clause-each : goal.returns-clause-each
returns-clause-each c =
    subst (λ (o : List (List ℕ)). (b m : ℕ) → (has_id (outside_of (record { inside = c.in_ok-inside.inside; outside = o }) b) m ≡ true) ↔ IsGiven (LeadsInto c.args.levels.now b) c.args.entrances.now m) (sym c.new.ensures)
    (paired_members c.args.levels.now c.args.entrances.now c.in_ok-inside.inside c.loop-label.outside.items c.in_ok-inside.ensures.within c.in_ok-inside.ensures.each (paired c))
