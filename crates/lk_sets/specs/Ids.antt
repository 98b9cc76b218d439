-- Sets of numbers, each as the list of its numbers in ascending order.
use Rattle.std.specs.Prelude.{ℕ, Bool, List, ◌≡◌, ◌==◌}
use Rattle.std.specs.List.{list_any}
use Rattle.std.specs.List.Sorted.{IsStrictlyIncreasing}

-- whether the number is in the list
abbrev pub has_id : List ℕ → ℕ → Bool
has_id ids x = list_any (λ y. y == x) ids

-- the list is just the numbers that pass the test, each once, in ascending order
pub record IsSetOf (member : ℕ → Bool) (ids : List ℕ) : Type 0 where
  pub sorted : IsStrictlyIncreasing ids
  pub members : (x : ℕ) → has_id ids x ≡ member x
