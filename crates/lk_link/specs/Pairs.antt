-- Questions about lists of pairs of structs that grow while they are answered.
use Rattle.std.specs.Prelude.{◌≡◌, ◌⊎◌, ℕ, Bool, true, List, Some, slice_get}
use Rattle.lk_link.specs.declared.place.StructPair.{StructPair}

-- the pair stands in the list
abbrev pub IsAmong : List StructPair → StructPair → Type 0
IsAmong pairs pair = (place : ℕ) × (slice_get pairs place ≡ Some pair)

-- each pair of a list stands in the other
abbrev pub AreAmong : List StructPair → List StructPair → Type 0
AreAmong some pairs = (pair : StructPair) → IsAmong some pair → IsAmong pairs pair

-- a list begins with another
abbrev pub IsLonger : List StructPair → List StructPair → Type 0
IsLonger old new = (place : ℕ) (pair : StructPair) → slice_get old place ≡ Some pair →
    slice_get new place ≡ Some pair

-- what is asked of lists of pairs was answered: `true` where it holds of each list that has the pairs of the
-- new one, which are the old ones and those that it needs; the further ones are as Allowed says
pub record IsAnswered (Allowed : StructPair → Type 0) (old new : List StructPair)
    (Asked : List StructPair → Type 0) (answer : Bool) : Type 0 where
  pub longer : IsLonger old new
  pub from : (pair : StructPair) → IsAmong new pair → IsAmong old pair ⊎ Allowed pair
  pub holds : answer ≡ true → (pairs : List StructPair) → AreAmong new pairs → Asked pairs
  pub needed : (pairs : List StructPair) → AreAmong old pairs → Asked pairs →
      (answer ≡ true) × AreAmong new pairs
