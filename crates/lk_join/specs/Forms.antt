-- The types of a source as they are in the program (C99 6.2.7). `row` has of each type of the source its
-- number in the program, and `structs` the same of its structs.
use Rattle.std.specs.Prelude.{◌≡◌, ℕ, Bool, false, List, Some, length, slice_get}
use Rattle.std.specs.List.{AllZip}
use Rattle.lk_base.specs.declared.kind.Kind.{Kind}
use Rattle.lk_link.specs.Sources.{Units}
use Rattle.lk_typed.specs.declared.unit.TypedUnit.{TypedUnit}
use Rattle.lk_types.specs.Building.{IsLonger}
use Rattle.lk_types.specs.Sizes.{form_size, is_over}
use Rattle.lk_types.specs.Table.{Table, IsKnown}
use Rattle.lk_types.specs.declared.c_type.CType.{CType}
use Rattle.lk_types.specs.declared.c_type.CType.TheVariants.{Void, Int, ThreadId, Mutex, Cond, Pointer, Array, Struct, Function, Opaque}
use Rattle.lk_types.specs.declared.member.StructMember.{StructMember}

-- the program's number of a type of the source
abbrev pub IsHere : (row : List ℕ) → (t here : ℕ) → Type 0
IsHere row t here = slice_get row t ≡ Some here

-- a form of the source has, in the program, the same form, made of the program's types
pub data HasForm (row structs : List ℕ) : CType → CType → Type 0 where
  void : HasForm row structs Void Void
  integer : {k : Kind} → HasForm row structs (Int k) (Int k)
  thread : HasForm row structs ThreadId ThreadId
  mutex : HasForm row structs Mutex Mutex
  condition : HasForm row structs Cond Cond
  opaque : {n : ℕ} → HasForm row structs (Opaque n) (Opaque n)
  pointer : {a b : ℕ} → IsHere row a b → HasForm row structs (Pointer a) (Pointer b)
  array : {a b n : ℕ} → IsHere row a b → HasForm row structs (Array a n) (Array b n)
  struct : {a b : ℕ} → IsHere structs a b → HasForm row structs (Struct a) (Struct b)
  function : {a b : ℕ} {ps qs : List ℕ} {dots : Bool} → IsHere row a b → AllZip (IsHere row) ps qs →
      HasForm row structs (Function a ps dots) (Function b qs dots)

-- a member of a struct of the source in the program: the same name, with the program's type
abbrev pub IsMember : (row : List ℕ) → StructMember → StructMember → Type 0
IsMember row a b = (a.name ≡ b.name) × IsHere row a.ty b.ty

-- the form of a type of the source stands in the program's table at this number, made of the program's types
pub record IsPutAt (table : Table) (row structs : List ℕ) (form : CType) (here : ℕ) : Type 0 where
  pub form_here : CType
  pub at : slice_get table.types here ≡ Some form_here
  pub is : HasForm row structs form form_here

-- `row` has the numbers of types of these forms, the first of the source
abbrev pub ArePutAt : Table → (row structs : List ℕ) → List CType → Type 0
ArePutAt table row structs forms = AllZip (IsPutAt table row structs) forms row

-- the same of the first sources, each with its structs and its row
pub record AreRowsOf (units : Units) (structs : List (List ℕ)) (table : Table) (rows : List (List ℕ))
    (count : ℕ) : Type 0 where
  pub size : length rows ≡ count
  pub each : (s : ℕ) (unit : TypedUnit) (row : List ℕ) → slice_get units s ≡ Some unit →
      slice_get rows s ≡ Some row →
      (here : List ℕ) × (slice_get structs s ≡ Some here) × ArePutAt table row here unit.types.types

-- the table has the pointer to the type, unless that is over the bounds of a table
abbrev pub HasPointer : Table → ℕ → Type 0
HasPointer table t = is_over (form_size table (Pointer t)) ≡ false →
    (pointer : ℕ) × (slice_get table.types pointer ≡ Some (Pointer t))

-- a later table that has the members of structs and the pointers which an earlier one has
pub record KeepsPointers (old new : Table) : Type 0 where
  pub longer : IsLonger old new
  pub members : new.members ≡ old.members
  pub kept : (t : ℕ) → IsKnown old t → HasPointer old t → HasPointer new t
