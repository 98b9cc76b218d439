-- Structs of sources, each at one place of a list.
use Rattle.std.specs.Prelude.{◌≡◌, ◌⊎◌, ℕ, List, Some, slice_get}
use Rattle.std.specs.List.{AllZip, Contains}
use Rattle.lk_link.specs.declared.place.StructOf.{StructOf}

-- no struct has two places
abbrev pub AreDistinct : List StructOf → Type 0
AreDistinct structs = (i j : ℕ) (s : StructOf) → slice_get structs i ≡ Some s →
    slice_get structs j ≡ Some s → i ≡ j

-- a list has what another has at the same places
abbrev pub IsLonger : (old new : List StructOf) → Type 0
IsLonger old new = (k : ℕ) (s : StructOf) → slice_get old k ≡ Some s → slice_get new k ≡ Some s

-- a struct has this place, and all others were there before
pub record IsPutAt (old new : List StructOf) (s : StructOf) (place : ℕ) : Type 0 where
  pub longer : IsLonger old new
  pub at : slice_get new place ≡ Some s
  pub from : (k : ℕ) (x : StructOf) → slice_get new k ≡ Some x → (slice_get old k ≡ Some x) ⊎ (s ≡ x)

-- the structs of a list have these places, one by one
abbrev pub HavePlaces : List StructOf → (places : List ℕ) → List StructOf → Type 0
HavePlaces structs places row = AllZip (λ place s. slice_get structs place ≡ Some s) places row

pub record ArePutAt (old new row : List StructOf) (places : List ℕ) : Type 0 where
  pub longer : IsLonger old new
  pub each : HavePlaces new places row
  pub from : (k : ℕ) (x : StructOf) → slice_get new k ≡ Some x → (slice_get old k ≡ Some x) ⊎ Contains row x

-- the same of the structs of several lists
pub record AreAllPutAt (old new : List StructOf) (rows : List (List StructOf))
    (places : List (List ℕ)) : Type 0 where
  pub longer : IsLonger old new
  pub each : AllZip (HavePlaces new) places rows
  pub from : (k : ℕ) (x : StructOf) → slice_get new k ≡ Some x →
      (slice_get old k ≡ Some x) ⊎ ((row : List StructOf) × Contains rows row × Contains row x)
