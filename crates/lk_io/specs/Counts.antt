-- The rule of counts, for every object that counts its faults. A count is a number of 64 bits. It
-- never falls, and it stands still at its last value.
use Rattle.std.specs.Prelude.{ℕ, ◌≡◌, ◌+◌, ◌-◌, ◌^◌, ◌≤◌, min, Result, OnOk, OnErr}

-- the last value of a count
abbrev pub last_count : ℕ
last_count = 2 ^ 64 - 1

-- one more, but never more than the last value
abbrev pub next_count : ℕ → ℕ
next_count count = min (count + 1) last_count

-- the count rose: it is greater than before, or stands at its last value
abbrev pub Rose : ℕ → ℕ → Type 0
Rose before now = next_count before ≤ now

-- what a call leaves of the count of its object: it never falls, an error comes only where it rose,
-- and a success leaves it as it was
pub record Counts {T E : Type 0} (before now : ℕ) (result : Result T E) : Type 0 where
  pub later : before ≤ now
  pub rose : OnErr result (Rose before now)
  pub calm : OnOk result (now ≡ before)
