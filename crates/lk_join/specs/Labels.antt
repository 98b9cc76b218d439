-- Structs that are one in the program, by labels: each has the place of one of those that it is one with.
use Rattle.std.specs.Prelude.{◌≡◌, ◌<◌, ℕ, List, Some, length, slice_get, nat_eq, if◌then◌else◌}
use Rattle.lk_link.specs.Pairs.{IsAmong}
use Rattle.lk_link.specs.Sources.{Units}
use Rattle.lk_link.specs.Structs.{AreKept}
use Rattle.lk_link.specs.declared.place.StructOf.{StructOf}
use Rattle.lk_link.specs.declared.place.StructPair.{StructPair}
use Rattle.lk_join.specs.Classes.{AreOneStruct}
use Rattle.lk_join.specs.Places.{AreDistinct}

-- labels of so many structs, each its own
pub record AreOwn (count : ℕ) (labels : List ℕ) : Type 0 where
  pub size : length labels ≡ count
  pub each : (i : ℕ) → i < count → slice_get labels i ≡ Some i

-- what had the one label has the other
pub record IsRelabelled (old new : List ℕ) (kept other : ℕ) : Type 0 where
  pub size : length new ≡ length old
  pub each : (i label : ℕ) → slice_get old i ≡ Some label →
      slice_get new i ≡ Some (if nat_eq label other then kept else label)

-- two structs of a list of pairs that its own comparisons keep
abbrev pub IsKeptPair : Units → StructPair → Type 0
IsKeptPair units pair = (pairs : List StructPair) × AreKept units pairs × IsAmong pairs pair

-- the struct at the place that the label of another one tells
abbrev pub IsLabelled : List StructOf → (labels : List ℕ) → ℕ → StructOf → Type 0
IsLabelled structs labels i rep =
    (label : ℕ) × (slice_get labels i ≡ Some label) × (slice_get structs label ≡ Some rep)

module _ (units : Units) (structs : List StructOf) where
  -- each is one with the struct that its label tells
  abbrev pub AreSound : List ℕ → Type 0
  AreSound labels = (i : ℕ) (s : StructOf) → slice_get structs i ≡ Some s →
      (rep : StructOf) × IsLabelled structs labels i rep × AreOneStruct units s rep

  -- two have one label, where a comparison finds no difference
  abbrev pub IsMet : List ℕ → ℕ → ℕ → Type 0
  IsMet labels i j = (s z : StructOf) → slice_get structs i ≡ Some s → slice_get structs j ≡ Some z →
      IsKeptPair units (record { first = s; second = z }) → slice_get labels i ≡ slice_get labels j

  -- the labels changed so that what had one label has one, and is one in the program
  pub record IsCoarser (old new : List ℕ) : Type 0 where
    pub size : length new ≡ length old
    pub coarser : (i j : ℕ) → i < length old → j < length old → slice_get old i ≡ slice_get old j →
        slice_get new i ≡ slice_get new j
    pub sound : AreSound old → AreSound new

  -- and those of these two are one where they have to be
  pub record HaveMet (old new : List ℕ) (i j : ℕ) : Type 0 where
    pub change : IsCoarser old new
    pub met : IsMet new i j

  -- the same of one of them and each before it
  pub record HasMetAll (old new : List ℕ) (n j : ℕ) : Type 0 where
    pub change : IsCoarser old new
    pub met : (i : ℕ) → i < n → IsMet new i j

  -- labels of all structs: two have one exactly where they are one in the program
  pub record AreLabels (labels : List ℕ) : Type 0 where
    pub distinct : AreDistinct structs
    pub size : length labels ≡ length structs
    pub sound : AreSound labels
    pub met : (i j : ℕ) → i < j → j < length structs → IsMet labels i j
