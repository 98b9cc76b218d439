-- The nodes of a type, and the steps between them.
use Rattle.std.specs.Prelude.{ℕ, ◌≡◌, ◌<◌, ◌==◌, ◌&&◌, Bool, false, List, [], ◌∷◌, ◌++◌, Option, None, Some, slice_get, length, unwrap_or, if◌then◌else◌, ⊤}
use Rattle.std.specs.List.{list_any}
use Rattle.std.specs.Option.{option_map}
use Rattle.lk_types.specs.Table.{Table, type_at, least_of, fields_of, IsKnown}
use Rattle.lk_types.specs.Walks.{Branch, Entry, start, nodes, target, element, field, is_void}
use Rattle.lk_types.specs.declared.c_type.CType.{CType}
use Rattle.lk_types.specs.declared.c_type.CType.TheVariants.{Void, Int, ThreadId, Mutex, Cond, Pointer, Array, Struct, Function, Opaque}
use Rattle.lk_types.specs.declared.node.Base.{Base}
use Rattle.lk_types.specs.declared.node.Base.TheVariants.{Start, Tag}
use Rattle.lk_types.specs.declared.node.NodeId.{NodeId}
use Rattle.lk_types.specs.declared.node.Sel.{Sel}
use Rattle.lk_types.specs.declared.node.Sel.TheVariants.{Target, Element, Field, Part}

-- a node: where the walk begins, the steps from there, and its type
pub record Node : Type 0 where
  pub base : Base
  pub path : List Sel
  pub type : ℕ

abbrev pub base_type : Base → ℕ
base_type (Start t) = t
base_type (Tag t) = t

-- the first node of a walk
abbrev pub first : Base → Node
first base = record { base = base; path = []; type = base_type base }

abbrev pub entry_of : Table → NodeId → Entry
entry_of table n = unwrap_or (slice_get (nodes table (base_type n.base)) n.number) (start (base_type n.base))

-- the node that an id names
abbrev pub node_of : Table → NodeId → Node
node_of table n = record { base = n.base; path = (entry_of table n).path; type = (entry_of table n).type }

-- a Tag is that of the type with the least number among those that are equal but for the sizes of arrays
abbrev pub IsBase : Table → Base → Type 0
IsBase table (Start t) = IsKnown table t
IsBase table (Tag t) = IsKnown table t × (least_of table t ≡ t)

-- the id names a node of the table: its number is that of an entry where no Tag stands
pub record IsNode (table : Table) (n : NodeId) : Type 0 where
  pub base : IsBase table n.base
  pub number : n.number < length (nodes table (base_type n.base))
  pub no_tag : (entry_of table n).tag ≡ false

-- what a pointer leads to
abbrev pub target_of : Table → CType → Option Branch
target_of table Void = None
target_of table (Int kind) = None
target_of table ThreadId = None
target_of table Mutex = None
target_of table Cond = None
target_of table (Pointer t) = Some (target table t)
target_of table (Array t n) = None
target_of table (Struct s) = None
target_of table (Function result params dots) = None
target_of table (Opaque n) = None

-- what an array is made of
abbrev pub element_of : CType → Option Branch
element_of Void = None
element_of (Int kind) = None
element_of ThreadId = None
element_of Mutex = None
element_of Cond = None
element_of (Pointer t) = None
element_of (Array t n) = Some (element t)
element_of (Struct s) = None
element_of (Function result params dots) = None
element_of (Opaque n) = None

-- the field with this number
abbrev pub field_of : Table → CType → ℕ → Option Branch
field_of table form k = option_map (field k) (slice_get (fields_of table form) k)

-- the node to which a part leads
abbrev pub along : Node → Branch → Node
along node b =
    if b.tag then first (Tag b.type)
    else record { base = node.base; path = node.path ++ b.sel ∷ []; type = b.type }

-- whether a node is the Tag of void
abbrev pub is_void_tag : Table → Base → Bool
is_void_tag table (Start t) = false
is_void_tag table (Tag t) = is_void (type_at table t)

-- whether void has a Part for the types that are equal to this one but for the sizes of arrays
abbrev pub has_part : Table → ℕ → Bool
has_part table t = list_any (λ u. u == least_of table t) table.parts

-- the Tag to which a Part leads, where a walk begins at the Tag of void
abbrev pub part_of_void : Table → Base → ℕ → Option Node
part_of_void table base t =
    if is_void_tag table base && has_part table t then Some (first (Tag (least_of table t))) else None

-- the path goes into no array
abbrev pub HasNoElement : List Sel → Type 0
HasNoElement [] = ⊤
HasNoElement (Target ∷ path) = HasNoElement path
HasNoElement (Element ∷ path) = ⊥
HasNoElement (Field k ∷ path) = HasNoElement path
HasNoElement (Part t ∷ path) = HasNoElement path

-- the type that a step names is in the table
abbrev pub IsSel : Table → Sel → Type 0
IsSel table Target = ⊤
IsSel table Element = ⊤
IsSel table (Field k) = ⊤
IsSel table (Part t) = IsKnown table t

-- the node to which a step leads, where the node has such a part
abbrev pub step : Table → Node → Sel → Option Node
step table node Target = option_map (along node) (target_of table (type_at table node.type))
step table node Element = option_map (along node) (element_of (type_at table node.type))
step table node (Field k) = option_map (along node) (field_of table (type_at table node.type) k)
step table node (Part t) = part_of_void table node.base t
