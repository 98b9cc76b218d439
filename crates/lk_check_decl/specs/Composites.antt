-- What makes the composite of two types in a table.
use Rattle.std.specs.Prelude.{ℕ, ◌≡◌, ◌<◌, List, [], ◌∷◌, map, All}
use Rattle.lk_types.specs.Building.{IsLonger, IsPartOfObjects, IsPassed}
use Rattle.lk_types.specs.Table.{Table, IsKnown}
use Rattle.lk_typed.specs.Declarations.{composite}
use Rattle.lk_typed.specs.Elements.{HasFewElements}
use Rattle.lk_typed.specs.Meaning.{meaning}
use Rattle.lk_typed.specs.Ty.{Ty, Pointer, Array, Function, types_of}
use Rattle.lk_check_decl.specs.declared.composite.ArrayParts.{ArrayParts}
use Rattle.lk_check_decl.specs.declared.composite.FunctionParts.{FunctionParts}

-- the type with these numbers as its parts
abbrev pub array_tree : Table → ArrayParts → Ty
array_tree table parts = Array (meaning table parts.element) parts.size

abbrev pub function_tree : Table → FunctionParts → Ty
function_tree table parts =
    Function (meaning table parts.result) (types_of (map (meaning table) parts.params)) parts.dots

-- a pointer to this type
pub record PointsTo (table : Table) (t target : ℕ) : Type 0 where
  pub means : meaning table t ≡ Pointer (meaning table target)
  pub below : target < t

-- an array of these parts
pub record IsArrayOf (table : Table) (t : ℕ) (parts : ArrayParts) : Type 0 where
  pub means : meaning table t ≡ array_tree table parts
  pub below : parts.element < t
  pub element : IsPartOfObjects table parts.element

-- a function of these parts
pub record IsFunctionOf (table : Table) (t : ℕ) (parts : FunctionParts) : Type 0 where
  pub means : meaning table t ≡ function_tree table parts
  pub below : All (λ u. u < t) (parts.result ∷ parts.params)
  pub passed : All (IsPassed table) (parts.result ∷ parts.params)

-- a number of the table for a type
pub record Stands (table : Table) (tree : Ty) (t : ℕ) : Type 0 where
  pub known : IsKnown table t
  pub means : meaning table t ≡ tree

-- numbers for the composites of two lists of types, one by one
pub data StandEach (old new : Table) : List ℕ → List ℕ → List ℕ → Type 0 where
  none : StandEach old new [] [] []
  more : {p q t : ℕ} {ps qs ts : List ℕ} → Stands new (composite (meaning old p) (meaning old q)) t →
      StandEach old new ps qs ts → StandEach old new (p ∷ ps) (q ∷ qs) (t ∷ ts)

-- the table has more types, all of few elements, and the same members
pub record AddsTypes (old new : Table) : Type 0 where
  pub longer : IsLonger old new
  pub members : new.members ≡ old.members
  pub few : HasFewElements new
