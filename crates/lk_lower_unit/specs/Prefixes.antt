-- Running sums. Only the private calls of this crate speak of them.
use Rattle.std.specs.Prelude.{◌+◌, ℕ, List, [], ◌∷◌}
use Rattle.std.specs.List.{sum}

-- before each number the sum of those before it, from `first` on
abbrev pub sums_from : ℕ → List ℕ → List ℕ
sums_from first [] = []
sums_from first (n ∷ others) = first ∷ sums_from (first + n) others

-- the same of several lists, one behind the other
abbrev pub rows_from : ℕ → List (List ℕ) → List (List ℕ)
rows_from first [] = []
rows_from first (ns ∷ others) = sums_from first ns ∷ rows_from (first + sum ns) others
