-- The structs that the labels of places tell.
use Rattle.std.specs.Prelude.{◌≡◌, ℕ, List, [], length}
use Rattle.std.specs.List.{AllZip}
use Rattle.lk_link.specs.declared.place.StructOf.{StructOf}
use Rattle.lk_join.specs.Labels.{IsLabelled}
use Rattle.lk_join.specs.Places.{AreAllPutAt, AreDistinct}

abbrev pub AreLabelled : List StructOf → (labels places : List ℕ) → List StructOf → Type 0
AreLabelled structs labels places row = AllZip (IsLabelled structs labels) places row

abbrev pub AreAllLabelled : List StructOf → (labels : List ℕ) → (places : List (List ℕ)) →
    List (List StructOf) → Type 0
AreAllLabelled structs labels places rows = AllZip (AreLabelled structs labels) places rows

-- of each place the number of the struct that its label tells
pub record IsNumbered (structs : List StructOf) (labels : List ℕ) (places rows : List (List ℕ))
    (count : ℕ) : Type 0 where
  pub classes : List StructOf
  pub named : List (List StructOf)
  pub labelled : AreAllLabelled structs labels places named
  pub put : AreAllPutAt [] classes named rows
  pub distinct : AreDistinct classes
  pub whole : count ≡ length classes
