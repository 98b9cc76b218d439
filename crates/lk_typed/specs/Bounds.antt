-- How large a type may be: code 32. Its nodes are those of its walk (lk_types, Walks),
-- here from the type as a tree.
use Rattle.std.specs.Prelude.{ℕ, zero, suc, Bool, true, false, ◌||◌, List, [], ◌∷◌, map, fold, if◌then◌else◌}
use Rattle.lk_types.specs.declared.size.TypeSize.{TypeSize}
use Rattle.lk_types.specs.Sizes.{start_size, with_part, is_too_large}
use Rattle.lk_typed.specs.Ty.{Ty, Void, Int, ThreadId, Mutex, Cond, Pointer, Array, Struct, Function, Opaque, list_of}

-- whether a type is a struct, or an array that holds one by value
abbrev pub holds_struct : Ty → Bool
holds_struct Void = false
holds_struct (Int k) = false
holds_struct ThreadId = false
holds_struct Mutex = false
holds_struct Cond = false
holds_struct (Pointer t) = false
holds_struct (Array t n) = holds_struct t
holds_struct (Struct s) = true
holds_struct (Function result params dots) = false
holds_struct (Opaque n) = false

abbrev pub is_void : Ty → Bool
is_void Void = true
is_void (Int k) = false
is_void ThreadId = false
is_void Mutex = false
is_void Cond = false
is_void (Pointer t) = false
is_void (Array t n) = false
is_void (Struct s) = false
is_void (Function result params dots) = false
is_void (Opaque n) = false

-- a part of a type, and whether it is counted as a Tag: what lies below a Tag isn't counted
pub record Part : Type 0 where
  pub type : Ty
  pub tag : Bool

abbrev pub plain : Ty → Part
plain t = record { type = t; tag = false }

-- what a pointer leads to: a Tag where it is void or holds a struct
abbrev pub target : Ty → Part
target t = record { type = t; tag = is_void t || holds_struct t }

-- the parts of a type, where `fields` has the types of the members of each struct
abbrev pub parts_of : (ℕ → List Ty) → Ty → List Part
parts_of fields Void = []
parts_of fields (Int k) = []
parts_of fields ThreadId = []
parts_of fields Mutex = []
parts_of fields Cond = []
parts_of fields (Pointer t) = target t ∷ []
parts_of fields (Array t n) = plain t ∷ []
parts_of fields (Struct s) = map plain (fields s)
parts_of fields (Function result params dots) = plain result ∷ map plain (list_of params)
parts_of fields (Opaque n) = []

abbrev pub part_size : (Ty → TypeSize) → Part → TypeSize
part_size below part = if part.tag then start_size else below part.type

abbrev pub size_of_parts : (Ty → TypeSize) → List Part → TypeSize
size_of_parts below parts = fold (λ size part. with_part size (part_size below part)) start_size parts

-- how large a type is, down to so many steps
unfoldable pub size_within : ℕ → (ℕ → List Ty) → Ty → TypeSize
size_within zero fields t = start_size
size_within (suc steps) fields t = size_of_parts (size_within steps fields) (parts_of fields t)

-- one step more than a type of a table may have, which is more than a declarator may make
unfoldable pub steps_counted : ℕ
steps_counted = 1003

abbrev pub size_of : (ℕ → List Ty) → Ty → TypeSize
size_of fields t = size_within steps_counted fields t

-- the type has more than 65,535 nodes, or one that is more than 1,000 steps below its Start
abbrev pub is_large : (ℕ → List Ty) → Ty → Bool
is_large fields t = is_too_large (size_of fields t)

-- so has a struct with these members alone
abbrev pub is_large_struct : (ℕ → List Ty) → List Ty → Bool
is_large_struct fields types = is_too_large (size_of_parts (size_of fields) (map plain types))
