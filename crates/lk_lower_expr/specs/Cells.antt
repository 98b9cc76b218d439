-- The nodes of the cells of objects.
use Rattle.std.specs.Prelude.{ℕ, zero, suc, ◌+◌, min, nat_lt, length, List, [], ◌∷◌, if◌then◌else◌}
use Rattle.lk_base.specs.declared.cell.CellStep.{CellStep}
use Rattle.lk_base.specs.declared.cell.CellStep.TheVariants.{Field, Index}
use Rattle.lk_lower_expr.specs.declared.cells.PartOf.{PartOf}
use Rattle.lk_types.specs.Sizes.{nodes_of}
use Rattle.lk_types.specs.Table.{Table, members_of, type_at}
use Rattle.lk_types.specs.declared.c_type.CType.{CType}
use Rattle.lk_types.specs.declared.c_type.CType.TheVariants.{Void, Int, ThreadId, Mutex, Cond, Pointer, Array, Struct, Function, Opaque}
use Rattle.lk_types.specs.declared.member.StructMember.{StructMember}
use Rattle.lk_types.specs.declared.node.Base.TheVariants.{Start}
use Rattle.lk_types.specs.declared.node.NodeId.{NodeId}

-- how many nodes a type has; none where the table has no type of that number
abbrev pub nodes_here : Table → ℕ → ℕ
nodes_here table t = if nat_lt t (length table.types) then nodes_of table t else 0

-- a number further on; it stays at the last number that there is, to which no node of a type comes
abbrev pub further : ℕ → ℕ → ℕ
further number count = min (number + count) 4294967295

-- the member k of these, of which the first has the number, and each as many as its type has
-- nodes; `of` where there is none
abbrev pub member_at : Table → PartOf → (number : ℕ) → List StructMember → (k : ℕ) → PartOf
member_at table of number [] k = of
member_at table of number (member ∷ others) zero = record { ty = member.ty; number = number }
member_at table of number (member ∷ others) (suc k) =
    member_at table of (further number (nodes_here table member.ty)) others k

-- the elements of an array, which are one part; the part itself where it is none
abbrev pub element_of : PartOf → CType → PartOf
element_of of Void = of
element_of of (Int k) = of
element_of of ThreadId = of
element_of of Mutex = of
element_of of Cond = of
element_of of (Pointer t) = of
element_of of (Array t n) = record { ty = t; number = further of.number 1 }
element_of of (Struct s) = of
element_of of (Function result params dots) = of
element_of of (Opaque n) = of

-- the member k of a struct; the part itself where it has none
abbrev pub field_of : Table → (k : ℕ) → PartOf → CType → PartOf
field_of table k of Void = of
field_of table k of (Int kind) = of
field_of table k of ThreadId = of
field_of table k of Mutex = of
field_of table k of Cond = of
field_of table k of (Pointer t) = of
field_of table k of (Array t n) = of
field_of table k of (Struct s) = member_at table of (further of.number 1) (members_of table s) k
field_of table k of (Function result params dots) = of
field_of table k of (Opaque n) = of

-- the part to which a step leads, with indices forgotten
abbrev pub inside : Table → PartOf → CellStep → PartOf
inside table of (Field k) = field_of table k of (type_at table of.ty)
inside table of (Index i) = element_of of (type_at table of.ty)

-- the same of several steps
abbrev pub inside_all : Table → PartOf → List CellStep → PartOf
inside_all table of [] = of
inside_all table of (step ∷ path) = inside_all table (inside table of step) path

-- the node to which the steps to a cell of an object of the type lead
abbrev pub cell_node : Table → (ty : ℕ) → List CellStep → NodeId
cell_node table ty path =
    record { base = Start ty; number = (inside_all table (record { ty = ty; number = 0 }) path).number }
