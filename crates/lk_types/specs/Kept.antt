-- What a table keeps of its types, and what that tells.
use Rattle.std.specs.Prelude.{ℕ, ◌≡◌, List, map, length, All, false, ◌≤◌, slice_get, Some, Option, None}
use Rattle.std.specs.Option.{option_map}
use Rattle.lk_types.specs.Table.{Table, type_at, least_of, struct_of, IsKnown}
use Rattle.lk_types.specs.Walks.{holds_struct}
use Rattle.lk_types.specs.Sizes.{size_at, fields_size, is_over}
use Rattle.lk_types.specs.Building.{IsTable, ArePartsOf, IsPartOfObjects, types_of}
use Rattle.lk_types.specs.Order.{IsOrdered}
use Rattle.lk_types.specs.declared.c_type.CType.{CType}
use Rattle.lk_types.specs.declared.c_type.CType.TheVariants.{Void, Int, ThreadId, Mutex, Cond, Pointer, Array, Struct, Function, Opaque}
use Rattle.lk_types.specs.declared.size.TypeSize.{TypeSize}
use Rattle.lk_types.specs.declared.facts.TypeFacts.{TypeFacts}
use Rattle.lk_types.specs.declared.facts.StructEntry.{StructEntry}

abbrev pub table_of : List (CType × TypeFacts) → List StructEntry → List ℕ → Table
table_of types structs parts = record {
  types = map (λ entry. entry.0) types;
  members = map (λ entry. entry.members) structs;
  parts = parts;
  least = map (λ entry. entry.1.least) types;
}

-- of a struct the size is kept beside its members, since it changes with them
abbrev pub size_by : List StructEntry → TypeFacts → Option ℕ → Option TypeSize
size_by structs fact None = Some fact.size
size_by structs fact (Some s) = option_map (λ entry. entry.size) (slice_get structs s)

abbrev pub kept_size : List StructEntry → CType → TypeFacts → Option TypeSize
kept_size structs form fact = size_by structs fact (struct_of form)

-- the form with the least of those that are equal but for the sizes of arrays in the place of
-- each type, and without a size
abbrev pub key_form : (ℕ → ℕ) → CType → CType
key_form least Void = Void
key_form least (Int kind) = Int kind
key_form least ThreadId = ThreadId
key_form least Mutex = Mutex
key_form least Cond = Cond
key_form least (Pointer t) = Pointer (least t)
key_form least (Array t n) = Array (least t) 0
key_form least (Struct s) = Struct s
key_form least (Function result params dots) = Function (least result) (map least params) dots
key_form least (Opaque n) = Opaque n

abbrev pub key_of : Table → ℕ → CType
key_of table t = key_form (least_of table) (type_at table t)

-- a key is there with this type
abbrev pub HasKey : List (CType × ℕ) → CType → ℕ → Type 0
HasKey classes key t = (place : ℕ) × (slice_get classes place ≡ Some (key, t))

-- what is kept of a struct is the size of its walk
pub record IsSized (table : Table) (entry : StructEntry) : Type 0 where
  pub value : entry.size ≡ fields_size table (types_of entry.members)
  pub small : is_over entry.size ≡ false
  pub parts : All (IsPartOfObjects table) (types_of entry.members)

-- what is kept tells what holds of the table
pub record AreKept (types : List (CType × TypeFacts)) (classes : List (CType × ℕ))
    (structs : List StructEntry) (table : Table) : Type 0 where
  pub table_is : IsTable table
  pub few_types : length types ≤ 4294967295
  pub few_structs : length structs ≤ 4294967295
  pub parts_are : ArePartsOf table table.parts
  -- of each type
  pub holding : (t : ℕ) (form : CType) (fact : TypeFacts) → slice_get types t ≡ Some (form, fact) →
      fact.holds_struct ≡ holds_struct table t
  pub sized : (t : ℕ) (form : CType) (fact : TypeFacts) → slice_get types t ≡ Some (form, fact) →
      kept_size structs form fact ≡ Some (size_at table t)
  -- of each struct
  pub structs_sized : (s : ℕ) (entry : StructEntry) → slice_get structs s ≡ Some entry → IsSized table entry
  -- of each type its key, with the least type that has it
  pub keyed : (t : ℕ) → IsKnown table t → HasKey classes (key_of table t) (least_of table t)
  pub keys : (place : ℕ) (key : CType) (t : ℕ) → slice_get classes place ≡ Some (key, t) →
      IsKnown table t × (key_of table t ≡ key)
  pub lesser : (t : ℕ) → IsKnown table t → least_of table t ≤ t
  -- of arrays and structs how they came
  pub ordered : IsOrdered table
