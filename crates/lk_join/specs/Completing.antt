-- The members of the program's structs: a source gives them, with the program's types (C99 6.2.7).
use Rattle.std.specs.Prelude.{◌≡◌, ◌<◌, ℕ, All, true, false, List, Some, length, slice_get}
use Rattle.std.specs.List.{AllZip}
use Rattle.lk_link.specs.Sources.{Units}
use Rattle.lk_typed.specs.declared.unit.TypedUnit.{TypedUnit}
use Rattle.lk_types.specs.Building.{IsLonger, types_of}
use Rattle.lk_types.specs.Sizes.{steps_of}
use Rattle.lk_types.specs.Table.{Table, is_open, members_of}
use Rattle.lk_types.specs.declared.c_type.CType.TheVariants.{Array, Struct}
use Rattle.lk_join.specs.Forms.{IsHere, IsMember}

-- `types` is the table of a source, `structs` has of each of its structs the number in the program, and `row`
-- the same of its first types a struct of the program has the members of one of the source
pub record IsGiven (types : Table) (row structs : List ℕ) (table : Table) (n : ℕ) : Type 0 where
  pub number : ℕ
  pub known : number < length types.members
  pub here : IsHere structs number n
  pub members : AllZip (IsMember row) (members_of types number) (members_of table n)

-- a later table, in which each struct that is complete now has members of the source
pub record GivesMembers (types : Table) (row structs : List ℕ) (old new : Table) : Type 0 where
  pub longer : IsLonger old new
  pub given : (n : ℕ) → is_open old n ≡ true → is_open new n ≡ false → IsGiven types row structs new n

-- two tables have the same members of structs
abbrev pub HaveSameMembers : Table → Table → Type 0
HaveSameMembers old new = (n : ℕ) → members_of new n ≡ members_of old n

-- no struct of the table is complete
abbrev pub AreOpen : Table → Type 0
AreOpen table = (n : ℕ) → is_open table n ≡ true

-- a struct whose members have fewer steps than this
pub record HasStepsBelow (types : Table) (steps s : ℕ) : Type 0 where
  pub known : s < length types.members
  pub members : All (λ t. steps_of types t < steps) (types_of (members_of types s))

-- the program has members of a struct, where the source completes it
abbrev pub IsCompleted : (types : Table) → (structs : List ℕ) → Table → ℕ → Type 0
IsCompleted types structs table a = (n : ℕ) → IsHere structs a n → is_open types a ≡ false →
    is_open table n ≡ false

-- the same of its first structs
abbrev pub AreCompleted : (types : Table) → (structs : List ℕ) → Table → (count : ℕ) → Type 0
AreCompleted types structs table count = (a : ℕ) → a < count → IsCompleted types structs table a

-- the struct that a type of the source is, where it is one
abbrev pub IsHeld : (types : Table) → (structs : List ℕ) → Table → ℕ → Type 0
IsHeld types structs table u = (s : ℕ) → slice_get types.types u ≡ Some (Struct s) →
    IsCompleted types structs table s

-- the struct of which a type of the source is an array, where it is one
abbrev pub IsElementHeld : (types : Table) → (structs : List ℕ) → Table → ℕ → Type 0
IsElementHeld types structs table t = (u n : ℕ) → slice_get types.types t ≡ Some (Array u n) →
    IsHeld types structs table u

-- a struct that the source completes, and the program not yet
pub record IsToComplete (types : Table) (structs : List ℕ) (table : Table) (s : ℕ) : Type 0 where
  pub shut : is_open types s ≡ false
  pub here : (n : ℕ) → IsHere structs s n → is_open table n ≡ true

-- some source gave the members of a struct of the program
pub record IsGivenBy (units : Units) (structs rows : List (List ℕ)) (table : Table) (n : ℕ) : Type 0 where
  pub source : ℕ
  pub unit : TypedUnit
  pub row : List ℕ
  pub here : List ℕ
  pub at : slice_get units source ≡ Some unit
  pub row_at : slice_get rows source ≡ Some row
  pub here_at : slice_get structs source ≡ Some here
  pub is : IsGiven unit.types row here table n

-- the structs of the program have the members that the first sources give, and these are completed there
pub record HasMembers (units : Units) (structs rows : List (List ℕ)) (table : Table) : Type 0 where
  pub given : (n : ℕ) → is_open table n ≡ false → IsGivenBy units structs rows table n
  pub completed : (s : ℕ) (unit : TypedUnit) (row here : List ℕ) → slice_get units s ≡ Some unit →
      slice_get rows s ≡ Some row → slice_get structs s ≡ Some here →
      AreCompleted unit.types here table (length unit.types.members)
