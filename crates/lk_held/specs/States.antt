-- Sets of locks that shrink, one for each point.
use Rattle.std.specs.Prelude.{◌≡◌, ◌<◌, ◌+◌, ◌&&◌, ℕ, Bool, true, false, List, [], Option, Some, None, length, slice_get, sum_by, unwrap_or}
use Rattle.std.specs.Option.{option_map_or}
use Rattle.lk_held.specs.declared.states.States.{States}
use Rattle.lk_sets.specs.Ids.{has_id}

-- the locks that are left at a point, none past the end
abbrev pub set_of : States → ℕ → List ℕ
set_of states p = option_map_or (λ set. unwrap_or set states.locks) (slice_get states.sets.items p) []

abbrev pub holds : States → ℕ → ℕ → Bool
holds states p x = has_id (set_of states p) x

-- how much a set among n locks may still lose
abbrev pub weight_of : ℕ → Option (List ℕ) → ℕ
weight_of n None = n + 1
weight_of n (Some ids) = length ids

unfoldable pub weight : States → ℕ
weight states = sum_by (weight_of (length states.locks)) states.sets.items

-- what is left of the locks of a point is what is in the set too, and that is less
pub record IsLess (states : States) (point : ℕ) (set left : List ℕ) : Type 0 where
  pub members : (x : ℕ) → has_id left x ≡ (holds states point x && has_id set x)
  pub lighter : length left
      < option_map_or (weight_of (length states.locks)) (slice_get states.sets.items point) 0

-- the locks of the point that aren't in the set are taken away
pub record Narrows (old new : States) (point : ℕ) (set : List ℕ) (changed : Bool) : Type 0 where
  pub locks : new.locks ≡ old.locks
  pub long : length new.sets.items ≡ length old.sets.items
  pub here : (x : ℕ) → holds new point x ≡ (holds old point x && has_id set x)
  pub others : (p x : ℕ) → (p ≡ point → ⊥) → holds new p x ≡ holds old p x
  pub falls : changed ≡ true → weight new < weight old
  pub same : changed ≡ false → new ≡ old
