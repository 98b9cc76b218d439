use Rattle.std.proofs.Common.{◌≡◌, ◌<◌, ◌↔◌, ℕ, true, All, length, sym, subst, arith}
use Rattle.lk_facts.specs.Origins.{flow_of}
use Rattle.lk_facts.specs.declared.way.Way.{Way}
use Rattle.lk_rise.specs.Correlations.{has_item}
use Rattle.lk_rise.specs.Rising.{Carries, subjects_below}
use Rattle.lk_rise.specs.Tables.{setting, Fits, HasWithin, IsCarried, Works}
use Rattle.lk_rise.specs.declared.correlations.Correlation.{Correlation}
use Rattle.lk_rise.proofs.PassLemmas.{OffersBelow, offers_none, offers_fit, offers_more, offers_all}
use Rattle.lk_rise.proofs.rising.Rising.offer_above.Goals as goal
use Rattle.lk_sets.specs.Ids.{has_id}

pub loop-subject-init : goal.loop-subject-init
loop-subject-init c = offers_none (setting c.args.self.now) c.args.link.now c.args.passage.now.item c.args.set.now c.ids-subject-items.result.now c.args.table.now c.args.again.now.items

pub offer-requires : goal.offer-requires
offer-requires c =
    let s = setting c.args.self.now in
    let item = c.args.passage.now.item in
    let same = sym c.ids-subject-items.ensures.list in
    let members : (x : ℕ) → (has_id c.ids-subject-items.result.now x ≡ true) ↔ IsCarried s c.args.link.now item x =
    subst (λ ids. (x : ℕ) → (has_id ids x ≡ true) ↔ IsCarried s c.args.link.now item x) same
    (subst (λ (w : Way). (x : ℕ) → (has_id c.args.passage.now.subjects x ≡ true) ↔ Carries (flow_of s.facts.origins) s.subjects w item.subject x) c.requires.way c.requires.passage.subjects) in
    let in_range = subst (λ ids. All (λ x. x < subjects_below s.facts s.subjects) ids) same c.requires.passage.subjects_below in
    subst (λ (above : Correlation). Fits s above c.args.set.now) (sym c.above-item.ensures)
    (offers_fit s c.args.link.now item c.args.set.now c.ids-subject-items.result.now members in_range c.loop-subject.subject-index c.loop-subject-test.true c.requires.offer)

pub loop-subject-preserved : goal.loop-subject-preserved
loop-subject-preserved c =
    let s = setting c.args.self.now in
    let item = c.args.passage.now.item in
    offers_more s c.args.link.now item c.args.set.now c.ids-subject-items.result.now c.loop-subject.subject-index
    c.args.table.now c.loop-subject.table c.offer.new.table c.args.again.now.items c.loop-subject.again.items c.offer.new.again.items c.loop-subject.invariant
    (subst (λ (above : Correlation). Works s (λ entries. has_item entries above ≡ true) (HasWithin above c.args.set.now) c.loop-subject.table c.offer.new.table c.loop-subject.again.items c.offer.new.again.items)
    c.above-item.ensures c.in_ok-offer.ensures)

pub returns : goal.returns
returns c =
    let s = setting c.args.self.now in
    let item = c.args.passage.now.item in
    let same = sym c.ids-subject-items.ensures.list in
    let members : (x : ℕ) → (has_id c.ids-subject-items.result.now x ≡ true) ↔ IsCarried s c.args.link.now item x =
    subst (λ ids. (x : ℕ) → (has_id ids x ≡ true) ↔ IsCarried s c.args.link.now item x) same
    (subst (λ (w : Way). (x : ℕ) → (has_id c.args.passage.now.subjects x ≡ true) ↔ Carries (flow_of s.facts.origins) s.subjects w item.subject x) c.requires.way c.requires.passage.subjects) in
    let in_range = subst (λ ids. All (λ x. x < subjects_below s.facts s.subjects) ids) same c.requires.passage.subjects_below in
    let end : c.loop-subject.subject-index ≡ length c.ids-subject-items.result.now = omega (arith, c.loop-subject.auto.subject-index-end, c.loop-subject-test.false) in
    offers_all s c.args.link.now item c.args.set.now c.ids-subject-items.result.now members in_range c.args.table.now c.loop-subject.table c.args.again.now.items c.loop-subject.again.items
    (subst (λ n. OffersBelow s c.args.link.now item c.args.set.now c.ids-subject-items.result.now n c.args.table.now c.loop-subject.table c.args.again.now.items c.loop-subject.again.items) end c.loop-subject.invariant)
