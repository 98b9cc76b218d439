-- The structs of the program (C99 6.2.7): chains of structs of the sources between which
-- comparisons find no difference.
use Rattle.std.specs.Prelude.{◌≡◌, ◌↔◌, ◌⊎◌, ◌<◌, ℕ, List, Some, length, slice_get}
use Rattle.lk_link.specs.Sources.{Units, IsStruct}
use Rattle.lk_link.specs.Structs.{Becomes, IsNoDifference}
use Rattle.lk_link.specs.declared.place.StructOf.{StructOf}
use Rattle.lk_typed.specs.declared.unit.TypedUnit.{TypedUnit}

module _ (units : Units) where
  -- a struct of a source that is itself in the program: no other one completes it
  pub record IsInProgram (s : StructOf) : Type 0 where
    pub known : IsStruct units s
    pub itself_there : Becomes units s s

  -- a comparison finds no difference between one struct and the other, in either order
  abbrev pub AreLinked : StructOf → StructOf → Type 0
  AreLinked s z =
      IsNoDifference units (record { first = s; second = z })
      ⊎ IsNoDifference units (record { first = z; second = s })

  -- a chain of such structs of the program: they are one struct there
  pub data AreOneStruct (r : StructOf) : StructOf → Type 0 where
    same : AreOneStruct r r
    next : {q s : StructOf} → AreOneStruct r q → IsInProgram s → AreLinked q s → AreOneStruct r s

-- the number of a struct of a source in the program
abbrev pub IsNumber : List (List ℕ) → StructOf → ℕ → Type 0
IsNumber rows s n = (row : List ℕ) × (slice_get rows s.source ≡ Some row) × (slice_get row s.number ≡ Some n)

-- of each struct of each source its number in the program: two have one number exactly where they are one
-- struct there, and each number below the count is that of some struct
pub record AreNumbers (units : Units) (rows : List (List ℕ)) (count : ℕ) : Type 0 where
  pub sources : length rows ≡ length units
  pub row : (s : ℕ) (unit : TypedUnit) (row : List ℕ) → slice_get units s ≡ Some unit →
      slice_get rows s ≡ Some row → length row ≡ length unit.types.members
  pub one : (s z r q : StructOf) (m n : ℕ) → IsNumber rows s m → IsNumber rows z n → Becomes units s r →
      Becomes units z q → (m ≡ n) ↔ AreOneStruct units r q
  pub below : (s : StructOf) (n : ℕ) → IsNumber rows s n → n < count
  pub all : (n : ℕ) → n < count → (s : StructOf) × IsNumber rows s n
