-- A relation among the numbers below a size, by its rows: row a has each b that stands with a.
use Rattle.std.specs.Prelude.{ℕ, Bool, true, false, List, [], ◌≡◌, ◌<◌, ◌≤◌, length, slice_index_or, nat_le}
use Rattle.std.specs.List.{filter}
use Rattle.std.specs.List.Sorted.{IsStrictlyIncreasing}
use Rattle.lk_sets.specs.Ids.{has_id}

pub record Rows : Type 0 where
  pub size : ℕ
  pub rows : List (List ℕ)

-- row a, empty from the size on
abbrev pub row_of : Rows → ℕ → List ℕ
row_of r a = slice_index_or r.rows a []

-- whether b stands with a
unfoldable pub has : Rows → ℕ → ℕ → Bool
has r a b = has_id (row_of r a) b

-- a row for each number below the size, which is at most 65,536: in ascending order without
-- repeats, of numbers below the size
pub record IsSquare (r : Rows) : Type 0 where
  pub small : r.size ≤ 65536
  pub rows : length r.rows ≡ r.size
  pub sorted : (a : ℕ) → IsStrictlyIncreasing (row_of r a)
  pub within : (a b : ℕ) → has r a b ≡ true → (a < r.size) × (b < r.size)

-- no number from b up to c stands with a
abbrev pub HasNoneBetween : Rows → ℕ → ℕ → ℕ → Type 0
HasNoneBetween r a b c = (x : ℕ) → b ≤ x → x < c → has r a x ≡ false

-- the first number from b on that stands with a
pub record IsNextInRow (r : Rows) (a b c : ℕ) : Type 0 where
  pub behind : b ≤ c
  pub below : c < r.size
  pub found : has r a c ≡ true
  pub first : HasNoneBetween r a b c

-- some number that stands with `from` does not stand with `into`
abbrev pub AddsPair : Rows → ℕ → ℕ → Type 0
AddsPair r from into = (b : ℕ) × (has r from b ≡ true) × (has r into b ≡ false)

-- what is left of row a from b on
abbrev pub row_from : Rows → ℕ → ℕ → List ℕ
row_from r a b = filter (λ x. nat_le b x) (row_of r a)
