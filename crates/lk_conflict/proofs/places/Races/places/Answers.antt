use Rattle.lk_facts.specs.Facts.{basis_of}
use Rattle.std.proofs.Common.{◌≡◌, ◌↔◌, ℕ, true, subst}
use Rattle.std.proofs.lemmas.List.{take_all}
use Rattle.lk_rise.specs.Conflicts.{every_place}
use Rattle.lk_sets.specs.Ids.{has_id, IsSetOf}
use Rattle.lk_conflict.specs.Places.{IsPlaceBy, IsPlaceOf}
use Rattle.lk_links.proofs.SetLemmas.{related_more}
use Rattle.lk_conflict.proofs.PlaceLemmas.{set_lists}
use Rattle.lk_conflict.proofs.places.Races.places.Goals as goal

pub loop-lock-preserved : goal.loop-lock-preserved
loop-lock-preserved c =
    let self = c.args.self.now in
    related_more (IsPlaceBy (basis_of self.facts.now) every_place) c.args.locks.now c.loop-lock.lock-index _ c.loop-lock.places.items c.push_place.new.places.items
    c.loop-lock-test.true c.in_ok-push_place.ensures c.loop-lock.invariant

pub returns : goal.returns
returns c =
    let self = c.args.self.now in
    let set : IsSetOf (has_id c.loop-lock.places.items) c.in_ok-set.set = subst (λ ids. IsSetOf (has_id ids) c.in_ok-set.set) c.deref.ensures.value c.in_ok-set.ensures in
    set_lists (IsPlaceOf (basis_of self.facts.now) every_place c.args.locks.now) c.loop-lock.places.items c.in_ok-set.set
    (subst (λ xs. (q : ℕ) → (has_id c.loop-lock.places.items q ≡ true) ↔ ((x : ℕ) × (has_id xs x ≡ true) × IsPlaceBy (basis_of self.facts.now) every_place x q))
    (take_all c.loop-lock.lock-index c.args.locks.now c.loop-lock-test.false) c.loop-lock.invariant)
    set
