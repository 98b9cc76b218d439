-- The least relation that has given pairs and in which arrows pass rows on.
use Rattle.std.specs.Prelude.{ℕ, List, true, ◌≡◌, ◌<◌, Contains}
use Rattle.lk_sets.specs.declared.spread.Arrow.{Arrow}
use Rattle.lk_sets.specs.Rows.{Rows, has}

-- both ends are below the size
abbrev pub IsWithin : ℕ → Arrow → Type 0
IsWithin size arrow = (arrow.from < size) × (arrow.into < size)

-- each number that stands with `from` stands with `into`
abbrev pub PassesOn : Rows → Arrow → Type 0
PassesOn r arrow = (b : ℕ) → has r arrow.from b ≡ true → has r arrow.into b ≡ true

-- b stands with a in r, or an arrow passes it on to a
pub data Spread (arrows : List Arrow) (r : Rows) : ℕ → ℕ → Type 0 where
  stands : {a b : ℕ} → has r a b ≡ true → Spread arrows r a b
  passed : {b : ℕ} (arrow : Arrow) → Contains arrows arrow → Spread arrows r arrow.from b →
      Spread arrows r arrow.into b

-- no pair of `now` is there without a reason in `first`
abbrev pub IsSound : List Arrow → Rows → Rows → Type 0
IsSound arrows first now = (a b : ℕ) → has now a b ≡ true → Spread arrows first a b
