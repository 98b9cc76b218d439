use Rattle.std.proofs.Common.{◌≡◌, ◌<◌, ◌≤◌, ℕ, Some, slice_get, suc}
use Rattle.lk_facts.specs.declared.place.Place.{Place}
use Rattle.lk_lower_parts.specs.TextOrder.{IsBefore}
use Rattle.lk_lower_parts.proofs.text.ascend.Given as goal

abbrev pub invariant-loop-k : goal.invariant-loop-k
invariant-loop-k l = (n : ℕ) (a b : Place) → 0 ≤ n → suc n < l.k → slice_get l.places n ≡ Some a → slice_get l.places (suc n) ≡ Some b → IsBefore l.roots a b
