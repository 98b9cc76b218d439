-- How large walks are, and the bounds of types.
use Rattle.std.specs.Prelude.{ℕ, ◌+◌, ◌||◌, ◌≡◌, ◌<◌, suc, Bool, false, List, [], ◌∷◌, length, max, fold, nat_lt, if◌then◌else◌, All, ⊤, true, Option, MatchOption}
use Rattle.lk_types.specs.Table.{Table, fields_of}
use Rattle.lk_types.specs.Walks.{Branch, Entry, nodes, branches, fields, has_tag}
use Rattle.lk_types.specs.declared.c_type.CType.{CType}
use Rattle.lk_types.specs.declared.c_type.CType.TheVariants.{Void, Int, ThreadId, Mutex, Cond, Pointer, Array, Struct, Function, Opaque}
use Rattle.lk_types.specs.declared.size.TypeSize.{TypeSize}

-- the greatest number of steps to one of the entries
abbrev pub deepest : List Entry → ℕ
deepest [] = 0
deepest (entry ∷ entries) = max (length entry.path) (deepest entries)

-- how many entries the walk of a type has
abbrev pub nodes_of : Table → ℕ → ℕ
nodes_of table t = length (nodes table t)

-- the greatest number of steps from the Start of a type
abbrev pub steps_of : Table → ℕ → ℕ
steps_of table t = deepest (nodes table t)

abbrev pub size_at : Table → ℕ → TypeSize
size_at table t = record { nodes = nodes_of table t; steps = steps_of table t }

-- a Start without parts
abbrev pub start_size : TypeSize
start_size = record { nodes = 1; steps = 0 }

-- the size with one more part below its Start
abbrev pub with_part : TypeSize → TypeSize → TypeSize
with_part size part = record { nodes = size.nodes + part.nodes; steps = max size.steps (suc part.steps) }

-- how large the walk of a part is; a Tag counts as one, and what lies below it isn't counted
abbrev pub part_size : (ℕ → TypeSize) → Branch → TypeSize
part_size below b = if b.tag then start_size else below b.type

abbrev pub size_of_parts : (ℕ → TypeSize) → List Branch → TypeSize
size_of_parts below parts = fold (λ size part. with_part size (part_size below part)) start_size parts

-- a size with further parts of these types
abbrev pub with_types : Table → TypeSize → List ℕ → TypeSize
with_types table size types = fold (λ size t. with_part size (size_at table t)) size types

-- how large the walk of a form is, from the walks of its parts
abbrev pub form_size : Table → CType → TypeSize
form_size table form = size_of_parts (size_at table) (branches table form)

-- how large the walk of a struct with members of these types is
abbrev pub fields_size : Table → List ℕ → TypeSize
fields_size table types = size_of_parts (size_at table) (fields 0 types)

-- whether a type is over one of the bounds of the language: 65,535 nodes, and 1,000 steps. No
-- declarator makes such a type
abbrev pub is_too_large : TypeSize → Bool
is_too_large size = nat_lt 65535 size.nodes || nat_lt 1000 size.steps

-- whether a type is over one of the bounds of a table. A table has room for more than declarators make: the
-- address of an object has the type of pointers to the object's type, and a program has the pointer to each
-- type of its sources. So the bounds are those of the language and two more
abbrev pub is_over : TypeSize → Bool
is_over size = nat_lt 65537 size.nodes || nat_lt 1002 size.steps

-- each part of a type that is no Tag has fewer steps than the type
abbrev pub HasLowerParts : Table → ℕ → CType → Type 0
HasLowerParts table t Void = ⊤
HasLowerParts table t (Int kind) = ⊤
HasLowerParts table t ThreadId = ⊤
HasLowerParts table t Mutex = ⊤
HasLowerParts table t Cond = ⊤
HasLowerParts table t (Pointer u) = has_tag table u ≡ false → steps_of table u < steps_of table t
HasLowerParts table t (Array u n) = steps_of table u < steps_of table t
HasLowerParts table t (Struct s) = All (λ u. steps_of table u < steps_of table t) (fields_of table (Struct s))
HasLowerParts table t (Function result params dots) =
    All (λ u. steps_of table u < steps_of table t) (result ∷ params)
HasLowerParts table t (Opaque n) = ⊤

-- an answer that is this size, or nothing exactly where it is over one of some bounds
abbrev pub FitsBy : (TypeSize → Bool) → TypeSize → Option TypeSize → Type 0
FitsBy over size answer =
    MatchOption answer (over size ≡ true) (λ found. (found ≡ size) × (over size ≡ false))

-- the same for the bounds of a table
abbrev pub Fits : TypeSize → Option TypeSize → Type 0
Fits size answer = FitsBy is_over size answer
