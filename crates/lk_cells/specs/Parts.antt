-- The parts of an object: where a path leads, by the types (C99 6.2.5, 20; 6.7.2.1; 6.7.5.2).
use Rattle.std.specs.Prelude.{ℕ, List, [], ◌∷◌, map, Option, None, Some, slice_get, option_and_then, if◌then◌else◌, nat_eq, nat_lt}
use Rattle.lk_types.specs.Table.{Table, members_of}
use Rattle.lk_types.specs.declared.c_type.CType.{CType}
use Rattle.lk_types.specs.declared.c_type.CType.TheVariants.{Void, Int, ThreadId, Mutex, Cond, Pointer, Array, Struct, Function, Opaque}
use Rattle.lk_cells.specs.declared.parts.Elements.{Elements}
use Rattle.lk_base.specs.declared.cell.CellStep.{CellStep}
use Rattle.lk_base.specs.declared.cell.CellStep.TheVariants.{Field, Index}
use Rattle.lk_types.specs.Nodes.{Node, step}
use Rattle.lk_types.specs.declared.node.Sel.{Sel}
use Rattle.lk_types.specs.declared.node.Sel.TheVariants as sel

-- the elements of an array by its form; one without a size has as many as its object says (C99 6.7.5.2)
abbrev pub elements_of : ℕ → CType → Option Elements
elements_of own Void = None
elements_of own (Int kind) = None
elements_of own ThreadId = None
elements_of own Mutex = None
elements_of own Cond = None
elements_of own (Pointer t) = None
elements_of own (Array t n) = Some (record { ty = t; count = if nat_eq n 0 then own else n })
elements_of own (Struct s) = None
elements_of own (Function result params dots) = None
elements_of own (Opaque n) = None

-- the types of the members of a struct, in their order (C99 6.7.2.1)
abbrev pub members_in : Table → CType → List ℕ
members_in table Void = []
members_in table (Int kind) = []
members_in table ThreadId = []
members_in table Mutex = []
members_in table Cond = []
members_in table (Pointer t) = []
members_in table (Array t n) = []
members_in table (Struct s) = map (λ member. member.ty) (members_of table s)
members_in table (Function result params dots) = []
members_in table (Opaque n) = []

-- the type of an element, where there are so many
abbrev pub element_type : ℕ → Elements → Option ℕ
element_type i elements = if nat_lt i elements.count then Some elements.ty else None

-- the type of the part that a step leads to, where there is one
abbrev pub part_type : Table → ℕ → CType → CellStep → Option ℕ
part_type table own form (Field k) = slice_get (members_in table form) k
part_type table own form (Index i) = option_and_then (element_type i) (elements_of own form)

-- the form of a type
abbrev pub form_of : Table → ℕ → Option CType
form_of table t = slice_get table.types t

-- the same from a type
abbrev pub part_at : Table → ℕ → ℕ → CellStep → Option ℕ
part_at table own t step = option_and_then (λ form. part_type table own form step) (form_of table t)

-- the type of the part that a path leads to from a type, where there is one;
-- `own` is the length of the object
abbrev pub type_along : Table → ℕ → List CellStep → ℕ → Option ℕ
type_along table own [] t = Some t
type_along table own (step ∷ path) t =
    option_and_then (λ u. type_along table own path u) (part_at table own t step)

-- a step to a part, its index forgotten
abbrev pub sel_of : CellStep → Sel
sel_of (Field k) = sel.Field k
sel_of (Index i) = sel.Element

-- the node to which a path leads, its indices forgotten
abbrev pub node_along : Table → Node → List CellStep → Option Node
node_along table n [] = Some n
node_along table n (next ∷ path) = option_and_then (λ m. node_along table m path) (step table n (sel_of next))
