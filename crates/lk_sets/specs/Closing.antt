-- The measure of loops that add pairs until none is missing, and where such a loop stands.
use Rattle.std.specs.Prelude.{ℕ, Bool, true, false, not, ◌≡◌, ◌<◌, sum_by, count_by}
use Rattle.std.specs.List.{range_with_len}
use Rattle.lk_sets.specs.Rows.{Rows, has}

-- how many pairs of numbers below the size do not stand together
unfoldable pub absent : Rows → ℕ
absent r = sum_by (λ a. count_by (λ b. not (has r a b)) (range_with_len 0 r.size)) (range_with_len 0 r.size)

-- No pair is lost. Where the answer is true a pair is new, and where it is false nothing has changed.
pub record Grows (old new : Rows) (changed : Bool) : Type 0 where
  pub size : new.size ≡ old.size
  pub kept : (a b : ℕ) → has old a b ≡ true → has new a b ≡ true
  pub falls : changed ≡ true → absent new < absent old
  pub same : changed ≡ false → new ≡ old

-- Where a loop stands that adds what is still missing: it has kept what was sound, and where it has
-- changed nothing it is done so far.
pub record Going (Sound Done : Rows → Type 0) (first now : Rows) (changed : Bool) : Type 0 where
  pub grows : Grows first now changed
  pub sound : Sound first → Sound now
  pub done : changed ≡ false → Done now
