-- The cells of the roots, by their places.
use Rattle.std.specs.Prelude.{◌≡◌, ◌<◌, ◌⊎◌, ℕ, All, List, length}
use Rattle.lk_facts.specs.Lowered.{IsPlaceOfValue, IsPlaceOfMutex}
use Rattle.lk_facts.specs.Places.{AreDifferent}
use Rattle.lk_facts.specs.declared.place.Place.{Place}
use Rattle.lk_facts.specs.declared.program.Program.{Program}
use Rattle.lk_facts.specs.declared.root.Root.{Root}
use Rattle.lk_lower_expr.specs.Lowering.{Numbers}
use Rattle.lk_lower_expr.specs.Programs.{ArePlaces}
use Rattle.lk_typed.specs.declared.whole.Whole.{Whole}
use Rattle.lk_types.specs.Nodes.{IsNode}
use Rattle.lk_types.specs.Table.{Table}

-- the node of the place is one of the table's
abbrev pub IsPlaceIn : Table → Place → Type 0
IsPlaceIn table place = IsNode table place.node

-- each program with these types and roots, of which these are the places and so many of them locations,
-- has the places that it should
abbrev pub ArePlacesOf : Table → List Root → List Place → ℕ → Type 0
ArePlacesOf types roots places locations =
    (whole : Whole) (numbers : Numbers) (program : Program) → program.types ≡ types → program.roots ≡ roots →
    program.places ≡ places → program.locations ≡ locations → ArePlaces whole numbers program

-- each program with these types and roots should have more than so many places
pub record HasMorePlacesOf (types : Table) (roots : List Root) (most : ℕ) : Type 0 where
  pub places : List Place
  pub each : (program : Program) → program.types ≡ types → program.roots ≡ roots →
      All (λ place. IsPlaceOfValue program place ⊎ IsPlaceOfMutex program place) places
  pub different : AreDifferent places
  pub many : most < length places
