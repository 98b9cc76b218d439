use Rattle.lk_facts.specs.Facts.{basis_of}
use Rattle.std.proofs.Common.{◌≡◌, ◌↔◌, ℕ, true, take}
use Rattle.lk_rise.specs.Conflicts.{every_place}
use Rattle.lk_sets.specs.Ids.{has_id}
use Rattle.lk_conflict.specs.Places.{IsPlaceBy}
use Rattle.lk_conflict.proofs.places.Races.places.Given as goal

abbrev pub invariant-loop-lock : goal.invariant-loop-lock
invariant-loop-lock l =
    (q : ℕ) → (has_id l.places.items q ≡ true) ↔ ((x : ℕ) × (has_id (take l.lock-index l.locks) x ≡ true) × IsPlaceBy (basis_of l.self.facts.now) every_place x q)
