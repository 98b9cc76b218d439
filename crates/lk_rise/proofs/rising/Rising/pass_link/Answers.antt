use Rattle.std.proofs.Common.{◌≡◌, ◌<◌, ◌&&◌, ◌||◌, ◌↔◌, ℕ, true, false, not, sym, subst}
use Rattle.lk_facts.specs.Facts.{basis_of}
use Rattle.lk_facts.specs.LockSets.{keep_of}
use Rattle.lk_facts.specs.Origins.{IsSetBelow, flow_of}
use Rattle.lk_facts.specs.declared.way.Way.{Way}
use Rattle.lk_links.specs.Only.{HaveRisen}
use Rattle.lk_rise.specs.Tables.{setting}
use Rattle.lk_rise.proofs.AboveLemmas.{above_locks}
use Rattle.lk_rise.proofs.LinkLemmas.{rises_within}
use Rattle.lk_rise.proofs.PassLemmas.{met_up, offer_fits}
use Rattle.lk_rise.proofs.rising.Rising.pass_link.Goals as goal
use Rattle.lk_sets.specs.Ids.{has_id}

pub with_kept-requires-clause-point : goal.with_kept-requires-clause-point
with_kept-requires-clause-point c =
    let self = c.args.self.now in
    let link = c.args.link.now in
    subst (λ n. link.point < n) (sym self.held_points) (rises_within (basis_of self.facts.now) link.point link.above link.below link.way false (false || link.starts) (c.requires.link.rises false))

pub with_kept-requires-clause-risen : goal.with_kept-requires-clause-risen
with_kept-requires-clause-risen c = subst (λ n. IsSetBelow n c.args.passage.now.risen) (sym c.args.self.now.held_labels) c.requires.passage.risen_below

pub offer_above-requires-clause-offer : goal.offer_above-requires-clause-offer
offer_above-requires-clause-offer c =
    let s = setting c.args.self.now in
    let link = c.args.link.now in
    let passage = c.args.passage.now in
    let rise = subst (λ (w : Way). (y : ℕ) → (has_id passage.risen y ≡ true) ↔ HaveRisen (flow_of s.facts.origins) w passage.locks y) c.requires.way c.requires.passage.risen in
    let child : c.is_child_above-child.result ≡ (passage.item.child || link.starts) = c.is_child_above-child.ensures in
    let members = above_locks (flow_of s.facts.origins) (keep_of s.held link.point) link.way (passage.item.child || link.starts) passage.locks passage.risen c.in_ok-set.set rise
    (subst (λ b. (y : ℕ) → has_id c.in_ok-set.set y ≡ (has_id passage.risen y || (not b && has_id (keep_of s.held link.point) y))) child c.in_ok-set.ensures.members) in
    offer_fits s link passage.item passage.locks c.in_ok-set.set c.requires.link c.requires.passage.fits c.requires.below members
    (subst (λ n. IsSetBelow n c.in_ok-set.set) c.args.self.now.held_labels c.in_ok-set.ensures.in_range)

pub returns : goal.returns
returns c =
    let s = setting c.args.self.now in
    let link = c.args.link.now in
    let passage = c.args.passage.now in
    let rise = subst (λ (w : Way). (y : ℕ) → (has_id passage.risen y ≡ true) ↔ HaveRisen (flow_of s.facts.origins) w passage.locks y) c.requires.way c.requires.passage.risen in
    let child : c.is_child_above-child.result ≡ (passage.item.child || link.starts) = c.is_child_above-child.ensures in
    let members = above_locks (flow_of s.facts.origins) (keep_of s.held link.point) link.way (passage.item.child || link.starts) passage.locks passage.risen c.in_ok-set.set rise
    (subst (λ b. (y : ℕ) → has_id c.in_ok-set.set y ≡ (has_id passage.risen y || (not b && has_id (keep_of s.held link.point) y))) child c.in_ok-set.ensures.members) in
    met_up s link passage.item passage.locks c.in_ok-set.set c.args.table.now c.offer_above.new.table c.args.again.now.items c.offer_above.new.again.items members c.in_ok-offer_above.ensures
