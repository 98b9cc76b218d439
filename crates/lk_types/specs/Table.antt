-- A table of types, as plain lists, and what is read from it.
use Rattle.std.specs.Prelude.{ℕ, ◌<◌, Bool, true, false, not, Option, Some, None, List, [], ◌∷◌, map, length, slice_get, unwrap_or, nat_eq, All, ⊤}
use Rattle.lk_types.specs.declared.c_type.CType.{CType}
use Rattle.lk_types.specs.declared.c_type.CType.TheVariants.{Void, Int, ThreadId, Mutex, Cond, Pointer, Array, Struct, Function, Opaque}
use Rattle.lk_types.specs.declared.member.StructMember.{StructMember}

pub record Table : Type 0 where
  -- the types by their numbers
  pub types : List CType
  -- of each struct the members; an incomplete struct has none
  pub members : List (List StructMember)
  -- the types T for which void has a Part(T)
  pub parts : List ℕ
  -- of each type the least number of one that is equal but for the sizes of arrays
  pub least : List ℕ

abbrev pub type_at : Table → ℕ → CType
type_at table t = unwrap_or (slice_get table.types t) Void

abbrev pub members_of : Table → ℕ → List StructMember
members_of table s = unwrap_or (slice_get table.members s) []

abbrev pub least_of : Table → ℕ → ℕ
least_of table t = unwrap_or (slice_get table.least t) t

abbrev pub is_empty : {X : Type 0} → List X → Bool
is_empty [] = true
is_empty (x ∷ xs) = false

-- whether a struct has no members yet
abbrev pub is_open : Table → ℕ → Bool
is_open table s = is_empty (members_of table s)

-- the number of the struct, where the form is one
abbrev pub struct_of : CType → Option ℕ
struct_of Void = None
struct_of (Int kind) = None
struct_of ThreadId = None
struct_of Mutex = None
struct_of Cond = None
struct_of (Pointer t) = None
struct_of (Array t n) = None
struct_of (Struct s) = Some s
struct_of (Function result params dots) = None
struct_of (Opaque n) = None

-- the types of the fields of a form: of a struct its members, of a function its
-- result and then its parameters
abbrev pub fields_of : Table → CType → List ℕ
fields_of table Void = []
fields_of table (Int kind) = []
fields_of table ThreadId = []
fields_of table Mutex = []
fields_of table Cond = []
fields_of table (Pointer t) = []
fields_of table (Array t n) = []
fields_of table (Struct s) = map (λ member. member.ty) (members_of table s)
fields_of table (Function result params dots) = result ∷ params
fields_of table (Opaque n) = []

-- whether the size of an object of this form is known (C99 6.2.5)
abbrev pub is_complete_form : Table → CType → Bool
is_complete_form table Void = false
is_complete_form table (Int kind) = true
is_complete_form table ThreadId = true
is_complete_form table Mutex = true
is_complete_form table Cond = true
is_complete_form table (Pointer t) = true
is_complete_form table (Array t n) = not (nat_eq n 0)
is_complete_form table (Struct s) = not (is_open table s)
is_complete_form table (Function result params dots) = false
is_complete_form table (Opaque n) = false

abbrev pub is_complete : Table → ℕ → Bool
is_complete table t = is_complete_form table (type_at table t)

abbrev pub IsKnown : Table → ℕ → Type 0
IsKnown table t = t < length table.types

-- the types that a form is made of are in the table, and so is its struct
abbrev pub HasKnown : Table → CType → Type 0
HasKnown table Void = ⊤
HasKnown table (Int kind) = ⊤
HasKnown table ThreadId = ⊤
HasKnown table Mutex = ⊤
HasKnown table Cond = ⊤
HasKnown table (Pointer t) = IsKnown table t
HasKnown table (Array t n) = IsKnown table t
HasKnown table (Struct s) = s < length table.members
HasKnown table (Function result params dots) = All (IsKnown table) (result ∷ params)
HasKnown table (Opaque n) = ⊤
