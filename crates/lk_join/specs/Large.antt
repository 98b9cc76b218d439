-- How large structs are in the sources and in the program: as large, where they are one.
use Rattle.std.specs.Prelude.{◌≡◌, ◌<◌, ◌≤◌, ℕ, All, true, false, List, Some, length, slice_get, take}
use Rattle.lk_link.specs.Sources.{Units}
use Rattle.lk_typed.specs.declared.unit.TypedUnit.{TypedUnit}
use Rattle.lk_types.specs.Building.{HasSizedStructs, IsTable, types_of}
use Rattle.lk_types.specs.Order.{AreDone, IsOrdered}
use Rattle.lk_types.specs.Sizes.{fields_size}
use Rattle.lk_types.specs.Table.{Table, is_open, members_of}
use Rattle.lk_types.specs.declared.size.TypeSize.{TypeSize}
use Rattle.lk_join.specs.Forms.{ArePutAt, IsHere}

-- what holds in each table of types
pub record IsTypeTable (table : Table) : Type 0 where
  pub table_is : IsTable table
  pub structs : HasSizedStructs table
  pub ordered : IsOrdered table

abbrev pub HaveTypeTables : Units → Type 0
HaveTypeTables units = All (λ unit. IsTypeTable unit.types) units

-- how large the walk of a struct is
abbrev pub struct_size : Table → ℕ → TypeSize
struct_size table s = fields_size table (types_of (members_of table s))

-- complete structs of two sources are as large, where they have one number in the program: `structs` has
-- those of the first, and `numbers` those of the second
abbrev pub AreAsLarge : (types : Table) (structs : List ℕ) (others : Table) (numbers : List ℕ) → Type 0
AreAsLarge types structs others numbers = (a b n : ℕ) → IsHere structs a n → IsHere numbers b n →
    is_open types a ≡ false → is_open others b ≡ false → struct_size types a ≡ struct_size others b

-- complete structs of the program are as large as those of a source that they are
abbrev pub AreAsLargeHere : (types : Table) (structs : List ℕ) → Table → Type 0
AreAsLargeHere types structs table = (a n : ℕ) → IsHere structs a n → is_open types a ≡ false →
    is_open table n ≡ false → struct_size table n ≡ struct_size types a

-- the same of all sources
abbrev pub AreAllAsLarge : Units → (structs : List (List ℕ)) → Table → Type 0
AreAllAsLarge units structs table = (s : ℕ) (unit : TypedUnit) (here : List ℕ) →
    slice_get units s ≡ Some unit → slice_get structs s ≡ Some here → AreAsLargeHere unit.types here table

-- the first types of a source are in the program's table, and its structs are as large there
pub record IsJoining (types : Table) (row structs : List ℕ) (table : Table) : Type 0 where
  pub source : IsTypeTable types
  pub is_table : IsTypeTable table
  pub put : ArePutAt table row structs (take (length row) types.types)
  pub large : AreAsLargeHere types structs table
  pub known : All (λ number. number < length table.members) structs

-- a struct of a source was complete before this type came, with all that it holds by value
pub record IsDoneBefore (types : Table) (count s : ℕ) : Type 0 where
  pub done : ℕ → ℕ
  pub are : AreDone types done
  pub before : done s ≤ count

-- structs of the program that are no smaller than this stay open
abbrev pub KeepsOpen : (types : Table) (structs : List ℕ) (steps : ℕ) (old new : Table) → Type 0
KeepsOpen types structs steps old new = (a n : ℕ) → IsHere structs a n → is_open types a ≡ false →
    steps ≤ (struct_size types a).steps → is_open old n ≡ true → is_open new n ≡ true
