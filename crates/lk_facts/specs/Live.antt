-- Which points are live: successors lead to them from the entry of a function.
use Rattle.std.specs.Prelude.{◌≡◌, ◌<◌, ℕ, List, length, true, All, Some, slice_get}
use Rattle.lk_facts.specs.declared.function.Function.{Function}
use Rattle.lk_facts.specs.declared.point.Point.{Point}
use Rattle.lk_sets.specs.Ids.{has_id}

module _ (points : List Point) (functions : List Function) where
  -- successors lead to the point from an entry, perhaps none
  pub data IsReached : ℕ → Type 0 where
    entry : (f : ℕ) (function : Function) → slice_get functions f ≡ Some function → IsReached function.entry
    next : (p : ℕ) {q : ℕ} (point : Point) → IsReached p → slice_get points p ≡ Some point →
        has_id point.next q ≡ true → IsReached q

  -- the successors and the entries are points
  pub record AreStepsInRange : Type 0 where
    pub next : All (λ point. All (λ q. q < length points) point.next) points
    pub entries : All (λ function. function.entry < length points) functions
