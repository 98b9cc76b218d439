-- Numbers in the order in which they were found. Only the private calls of this crate speak of it.
use Rattle.std.specs.Prelude.{◌≡◌, ℕ, List, Some, slice_get}
use Rattle.lk_sets.specs.Adding.{Adds}

pub record FoundList : Type 0 where
  -- the numbers are below it
  pub size : ℕ
  pub list : List ℕ

abbrev pub found_of : ℕ → List ℕ → FoundList
found_of size list = record { size = size; list = list }

-- what was found keeps its place
abbrev pub KeepsPlaces : List ℕ → List ℕ → Type 0
KeepsPlaces old new = (i x : ℕ) → slice_get old i ≡ Some x → slice_get new i ≡ Some x

-- more was found: what the property says
pub record Finds (P : ℕ → Type 0) (old new : FoundList) : Type 0 where
  pub size : new.size ≡ old.size
  pub places : KeepsPlaces old.list new.list
  pub adds : Adds P old.list new.list

-- x is among what was found
abbrev pub IsPutTo : FoundList → FoundList → ℕ → Type 0
IsPutTo old new x = Finds (λ y. x ≡ y) old new
