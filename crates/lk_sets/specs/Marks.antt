-- Marks that tell which rows have grown, so that those alone are passed on again.
use Rattle.std.specs.Prelude.{ℕ, Bool, true, false, List, ◌≡◌, ◌⊎◌, length, slice_index_or}
use Rattle.lk_sets.specs.declared.spread.Arrow.{Arrow}
use Rattle.lk_sets.specs.Rows.{Rows, has}
use Rattle.lk_sets.specs.Spread.{PassesOn}

abbrev pub is_marked : List Bool → ℕ → Bool
is_marked marks a = slice_index_or marks a false

-- the arrow has nothing new to pass on, or waits, since the row that it passes on is marked
abbrev pub PassesOrWaits : List Bool → Rows → Arrow → Type 0
PassesOrWaits marks r arrow = PassesOn r arrow ⊎ (is_marked marks arrow.from ≡ true)

-- each row that has grown is marked, and where none has the marks are the same
pub record AreMarked (old new : Rows) (before now : List Bool) (changed : Bool) : Type 0 where
  pub long : length now ≡ length before
  pub grown : (a b : ℕ) → has new a b ≡ true → (has old a b ≡ true) ⊎ (is_marked now a ≡ true)
  pub kept : (a : ℕ) → is_marked before a ≡ true → is_marked now a ≡ true
  pub none : changed ≡ false → now ≡ before
