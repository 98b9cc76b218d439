-- How a table grows, and what holds in each table.
use Rattle.std.specs.Prelude.{ℕ, ◌≡◌, ◌↔◌, ◌<◌, ◌≤◌, true, false, List, [], ◌∷◌, ◌++◌, map, length, All, slice_get, slice_set, Some, ⊤}
use Rattle.lk_types.specs.Table.{Table, type_at, members_of, least_of, is_open, is_complete, is_empty, IsKnown}
use Rattle.lk_types.specs.Walks.{Branch, branches, holds_struct, is_void}
use Rattle.lk_types.specs.Sizes.{form_size, fields_size, is_over}
use Rattle.lk_types.specs.Equal.{IsAlike}
use Rattle.lk_types.specs.declared.c_type.CType.{CType}
use Rattle.lk_types.specs.declared.c_type.CType.TheVariants.{Void, Int, ThreadId, Mutex, Cond, Pointer, Array, Struct, Function, Opaque}
use Rattle.lk_types.specs.declared.member.StructMember.{StructMember}

-- a type that may stand by value in another: it isn't an incomplete struct
abbrev pub IsClosedForm : Table → CType → Type 0
IsClosedForm table Void = ⊤
IsClosedForm table (Int kind) = ⊤
IsClosedForm table ThreadId = ⊤
IsClosedForm table Mutex = ⊤
IsClosedForm table Cond = ⊤
IsClosedForm table (Pointer t) = ⊤
IsClosedForm table (Array t n) = ⊤
IsClosedForm table (Struct s) = is_open table s ≡ false
IsClosedForm table (Function result params dots) = ⊤
IsClosedForm table (Opaque n) = ⊤

abbrev pub IsClosed : Table → ℕ → Type 0
IsClosed table t = IsClosedForm table (type_at table t)

-- a part that is no Tag isn't an incomplete struct
abbrev pub IsClosedPart : Table → Branch → Type 0
IsClosedPart table b = b.tag ≡ false → IsClosed table b.type

-- a function's result and parameters are known and hold no struct by value
pub record IsPassed (table : Table) (t : ℕ) : Type 0 where
  pub known : IsKnown table t
  pub no_struct : holds_struct table t ≡ false

-- an element or member is known, and complete
pub record IsPartOfObjects (table : Table) (t : ℕ) : Type 0 where
  pub known : IsKnown table t
  pub complete : is_complete table t ≡ true

-- a form that may be put into the table
abbrev pub IsForm : Table → CType → Type 0
IsForm table Void = ⊤
IsForm table (Int kind) = ⊤
IsForm table ThreadId = ⊤
IsForm table Mutex = ⊤
IsForm table Cond = ⊤
IsForm table (Pointer t) = IsKnown table t
IsForm table (Array t n) = IsPartOfObjects table t
IsForm table (Struct s) = s < length table.members
IsForm table (Function result params dots) = All (IsPassed table) (result ∷ params)
IsForm table (Opaque n) = ⊤

-- the types of members
abbrev pub types_of : List StructMember → List ℕ
types_of members = map (λ member. member.ty) members

-- the members of each struct are parts of objects, and no complete struct is over the bounds of a table
pub record HasSizedStructs (table : Table) : Type 0 where
  pub parts : (s : ℕ) → s < length table.members → All (IsPartOfObjects table) (types_of (members_of table s))
  pub small : (s : ℕ) → s < length table.members →
      is_over (fields_size table (types_of (members_of table s))) ≡ false

-- members that may complete a struct, which has none yet
pub record CanComplete (table : Table) (s : ℕ) (given : List StructMember) : Type 0 where
  pub known : s < length table.members
  pub incomplete : is_open table s ≡ true
  pub members : is_empty given ≡ false
  pub parts : All (λ member. IsPartOfObjects table member.ty) given
  pub small : is_over (fields_size table (types_of given)) ≡ false

-- the table with a struct's members
abbrev pub with_members : Table → ℕ → List StructMember → Table
with_members table s members = record table { members = slice_set table.members s members }

-- a form is the last type now, and all else is as before
pub record IsAdded (old new : Table) (form : CType) : Type 0 where
  pub types : new.types ≡ old.types ++ form ∷ []
  pub members : new.members ≡ old.members
  pub parts : new.parts ≡ old.parts
  pub least : (n : ℕ) × (new.least ≡ old.least ++ n ∷ [])

-- a later table has the types of the earlier one with their numbers, and the members of its complete structs
pub record IsLonger (old new : Table) : Type 0 where
  pub types : (more : List CType) × (new.types ≡ old.types ++ more)
  pub least : (more : List ℕ) × (new.least ≡ old.least ++ more)
  pub structs : length old.members ≤ length new.members
  pub members : (s : ℕ) → is_open old s ≡ false → members_of new s ≡ members_of old s

-- u is the least number of a type that is equal to t but for the sizes of arrays
pub record IsLeast (table : Table) (t u : ℕ) : Type 0 where
  pub alike : IsAlike table.types u t
  pub least : (v : ℕ) → IsKnown table v → IsAlike table.types v t → u ≤ v

-- what a form is made of was in the table before it; the types of members are in the table
abbrev pub IsMadeOf : Table → ℕ → CType → Type 0
IsMadeOf table t Void = ⊤
IsMadeOf table t (Int kind) = ⊤
IsMadeOf table t ThreadId = ⊤
IsMadeOf table t Mutex = ⊤
IsMadeOf table t Cond = ⊤
IsMadeOf table t (Pointer u) = u < t
IsMadeOf table t (Array u n) = u < t
IsMadeOf table t (Struct s) = (s < length table.members) × All (IsKnown table) (types_of (members_of table s))
IsMadeOf table t (Function result params dots) = All (λ u. u < t) (result ∷ params)
IsMadeOf table t (Opaque n) = ⊤

-- a type of the table: what it is made of is there, its form could be put, what it holds by value is no
-- incomplete struct, and it is within the bounds of a table
pub record IsType (table : Table) (t : ℕ) : Type 0 where
  pub made_of : IsMadeOf table t (type_at table t)
  pub form : IsForm table (type_at table t)
  pub closed : All (IsClosedPart table) (branches table (type_at table t))
  pub small : is_over (form_size table (type_at table t)) ≡ false

-- what holds in each table
pub record IsTable (table : Table) : Type 0 where
  pub types : (t : ℕ) → IsKnown table t → IsType table t
  pub different : (t u : ℕ) (form : CType) → slice_get table.types t ≡ Some form →
      slice_get table.types u ≡ Some form → t ≡ u
  pub leasts : length table.least ≡ length table.types
  pub least : (t : ℕ) → IsKnown table t → IsLeast table t (least_of table t)
  pub alike : (t u : ℕ) → IsKnown table t → IsKnown table u →
      IsAlike table.types t u ↔ (least_of table t ≡ least_of table u)

-- a form was put: it was there, or is there now as the last type
pub data IsPut (old new : Table) (form : CType) (t : ℕ) : Type 0 where
  found : slice_get old.types t ≡ Some form → new ≡ old → IsPut old new form t
  added : ((u : ℕ) → slice_get old.types u ≡ Some form → ⊥) → t ≡ length old.types → IsAdded old new form →
      IsPut old new form t

-- a type that may be a Part of void: it is known, isn't void, and is the least of those that are equal to
-- it but for the sizes of arrays
pub record IsPart (table : Table) (t : ℕ) : Type 0 where
  pub known : IsKnown table t
  pub no_void : is_void (type_at table t) ≡ false
  pub least : least_of table t ≡ t

-- the Parts of void may be these types: each is one that may, and none stands twice
pub record ArePartsOf (table : Table) (parts : List ℕ) : Type 0 where
  pub each : All (IsPart table) parts
  pub different : (i j t : ℕ) → slice_get parts i ≡ Some t → slice_get parts j ≡ Some t → i ≡ j
