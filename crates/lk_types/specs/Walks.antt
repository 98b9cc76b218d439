-- The walk of a type: what its pointers, elements and fields lead to, depth first.
use Rattle.std.specs.Prelude.{ℕ, zero, suc, Bool, true, false, ◌||◌, List, [], ◌∷◌, map, if◌then◌else◌}
use Rattle.std.specs.List.{flat_map}
use Rattle.lk_types.specs.Table.{Table, type_at, least_of, fields_of}
use Rattle.lk_types.specs.declared.c_type.CType.{CType}
use Rattle.lk_types.specs.declared.c_type.CType.TheVariants.{Void, Int, ThreadId, Mutex, Cond, Pointer, Array, Struct, Function, Opaque}
use Rattle.lk_types.specs.declared.node.Sel.{Sel}
use Rattle.lk_types.specs.declared.node.Sel.TheVariants.{Target, Element, Field}

-- whether the form is a struct, or an array whose elements are or hold one by `below`
abbrev pub holds : (ℕ → Bool) → CType → Bool
holds below Void = false
holds below (Int kind) = false
holds below ThreadId = false
holds below Mutex = false
holds below Cond = false
holds below (Pointer t) = false
holds below (Array t n) = below t
holds below (Struct s) = true
holds below (Function result params dots) = false
holds below (Opaque n) = false

-- the same of a type, in an array of arrays down to a depth
unfoldable pub holds_within : ℕ → Table → ℕ → Bool
holds_within zero table t = false
holds_within (suc depth) table t = holds (holds_within depth table) (type_at table t)

-- whether a type is a struct, or an array that holds one by value; elements have
-- lesser numbers than their array
abbrev pub holds_struct : Table → ℕ → Bool
holds_struct table t = holds_within (suc t) table t

abbrev pub is_void : CType → Bool
is_void Void = true
is_void (Int kind) = false
is_void ThreadId = false
is_void Mutex = false
is_void Cond = false
is_void (Pointer t) = false
is_void (Array t n) = false
is_void (Struct s) = false
is_void (Function result params dots) = false
is_void (Opaque n) = false

-- whether a pointer to the type leads to its Tag
abbrev pub has_tag : Table → ℕ → Bool
has_tag table t = is_void (type_at table t) || holds_struct table t

-- a part of a type: the step that leads to it, its type, and whether it is the Tag of that type
pub record Branch : Type 0 where
  pub sel : Sel
  pub type : ℕ
  pub tag : Bool

-- what a pointer to the type leads to; types that differ in the sizes of arrays alone have one Tag
abbrev pub target : Table → ℕ → Branch
target table t = if has_tag table t then record { sel = Target; type = least_of table t; tag = true }
    else record { sel = Target; type = t; tag = false }

abbrev pub element : ℕ → Branch
element t = record { sel = Element; type = t; tag = false }

abbrev pub field : ℕ → ℕ → Branch
field k t = record { sel = Field k; type = t; tag = false }

-- fields of these types, numbered from k on
abbrev pub fields : ℕ → List ℕ → List Branch
fields k [] = []
fields k (t ∷ ts) = field k t ∷ fields (suc k) ts

-- the parts of a form in order
abbrev pub branches : Table → CType → List Branch
branches table Void = []
branches table (Int kind) = []
branches table ThreadId = []
branches table Mutex = []
branches table Cond = []
branches table (Pointer t) = target table t ∷ []
branches table (Array t n) = element t ∷ []
branches table (Struct s) = fields 0 (fields_of table (Struct s))
branches table (Function result params dots) = fields 0 (result ∷ params)
branches table (Opaque n) = []

-- an entry of a walk: the steps from its Start, its type, and whether a Tag stands there
pub record Entry : Type 0 where
  pub path : List Sel
  pub type : ℕ
  pub tag : Bool

abbrev pub start : ℕ → Entry
start t = record { path = []; type = t; tag = false }

-- an entry below a step
abbrev pub under : Sel → Entry → Entry
under sel entry = record entry { path = sel ∷ entry.path }

-- what stands in a walk for a part: of a Tag the place alone, else the walk of the part
abbrev pub at_branch : (ℕ → List Entry) → Branch → List Entry
at_branch below b = if b.tag then record { path = b.sel ∷ []; type = b.type; tag = true } ∷ []
    else map (under b.sel) (below b.type)

-- the entries below the Start of a form
abbrev pub below_start : (ℕ → List Entry) → Table → CType → List Entry
below_start below table form = flat_map (at_branch below) (branches table form)

-- the walk of a type, as far as so many steps from its Start
unfoldable pub walk : ℕ → Table → ℕ → List Entry
walk zero table t = start t ∷ []
walk (suc steps) table t = start t ∷ below_start (walk steps table) table (type_at table t)

-- the most steps from the Start of a type that a table holds
unfoldable pub most_steps : ℕ
most_steps = 1002

-- the walk of a type: its nodes, each before its parts, and each place where a Tag stands
abbrev pub nodes : Table → ℕ → List Entry
nodes table t = walk most_steps table t
