-- What a shelf tells of a call.
use Rattle.std.specs.Prelude.{ℕ, ◌≡◌, List, Option}
use Rattle.lk_io.specs.Counts.{Rose}
use Rattle.lk_io.specs.Shelf.{Held}

-- a count before a call and after it
pub record Count : Type 0 where
  pub before : ℕ
  pub now : ℕ

abbrev pub HasRisen : Count → Type 0
HasRisen count = Rose count.before count.now

abbrev pub IsAsBefore : Count → Type 0
IsAsBefore count = count.now ≡ count.before

-- its files, the name of its last failed read, and its count of faults
pub record Shelved : Type 0 where
  pub files : Option Held
  pub bad : Option (List ℕ)
  pub faults : Count

abbrev pub shelved : {F : Type 0} → (F → Option Held) → (F → Option (List ℕ)) → (F → ℕ) → F → F → Shelved
shelved held bad faults old new =
    record { files = held old; bad = bad new; faults = record { before = faults old; now = faults new } }
