-- How the tables of a source say what its numbers stand for.
use Rattle.std.specs.Prelude.{ℕ, slice_get, ◌+◌, ◌<◌, ◌^◌, false, All, List, get_or, Option, None, Some, if◌then◌else◌}
use Rattle.std.specs.Option.{option_map_or}
use Rattle.lk_base.specs.declared.cell.CellStep.{CellStep}
use Rattle.lk_base.specs.declared.cell.CellStep.TheVariants.{Field, Index}
use Rattle.lk_lower_expr.specs.Expressions.{part}
use Rattle.lk_lower_expr.specs.Names.{Names, Node}
use Rattle.lk_lower_expr.specs.Parts.{Part}
use Rattle.lk_lower_expr.specs.declared.names.LocalNames.{LocalNames}
use Rattle.lk_lower_expr.specs.declared.names.SourceNames.{SourceNames}
use Rattle.lk_typed.specs.declared.expression.Storage.{Storage}
use Rattle.lk_typed.specs.declared.expression.Storage.TheVariants.{Entity, Local}
use Rattle.lk_typed.specs.declared.expression.TypedExpr.{TypedExpr}
use Rattle.lk_types.specs.Table.{Table, members_of, type_at}
use Rattle.lk_types.specs.declared.c_type.CType.{CType}
use Rattle.lk_types.specs.declared.c_type.CType.TheVariants.{Void, Int, ThreadId, Mutex, Cond, Pointer, Array, Struct, Function, Opaque}

abbrev element_of : CType → ℕ → ℕ
element_of Void t = t
element_of (Int k) t = t
element_of ThreadId t = t
element_of Mutex t = t
element_of Cond t = t
element_of (Pointer u) t = t
element_of (Array u n) t = u
element_of (Struct s) t = t
element_of (Function result params dots) t = t
element_of (Opaque n) t = t

-- of a struct the type of a member
abbrev pub member_type : Table → (struct k t : ℕ) → ℕ
member_type table struct k t = option_map_or (λ member. member.ty) (slice_get (members_of table struct) k) t

abbrev member_of : Table → CType → (k t : ℕ) → ℕ
member_of table Void k t = t
member_of table (Int kind) k t = t
member_of table ThreadId k t = t
member_of table Mutex k t = t
member_of table Cond k t = t
member_of table (Pointer u) k t = t
member_of table (Array u n) k t = t
member_of table (Struct s) k t = member_type table s k t
member_of table (Function result params dots) k t = t
member_of table (Opaque n) k t = t

-- the type of a part; a type has no other parts than its members or its elements
abbrev pub part_type : Table → ℕ → CellStep → ℕ
part_type table t (Field k) = member_of table (type_at table t) k t
part_type table t (Index i) = element_of (type_at table t) t

-- a local of the body, and what stands for one past the last of them
abbrev pub no_local : LocalNames
no_local =
    record { ordinal = 0; spot = record { file = 0; line = 0; col = 0 }; ty = 0; is_slot = false; number = 0 }

abbrev pub local_of : List LocalNames → ℕ → LocalNames
local_of locals n = get_or locals n no_local

abbrev pub node_of_local : LocalNames → Node
node_of_local local = record { ordinal = local.ordinal; spot = local.spot; type = local.ty }

abbrev pub local_number : List LocalNames → ℕ → ℕ
local_number locals n = (local_of locals n).number

abbrev pub slot_of_local : LocalNames → Option ℕ
slot_of_local local = if local.is_slot then Some local.number else None

abbrev pub slot_of : List LocalNames → ℕ → Option ℕ
slot_of locals n = slot_of_local (local_of locals n)

abbrev pub declared_node : List LocalNames → ℕ → Node
declared_node locals n = node_of_local (local_of locals n)

abbrev pub object_of : SourceNames → Storage → ℕ
object_of source (Entity n) = get_or source.objects n 0
object_of source (Local n) = local_number source.locals n

abbrev pub at_of : SourceNames → ℕ → ℕ → ℕ
at_of source node step = get_or source.bases node 0 + step

-- no point has a number from 2 ^ 31 on
abbrev pub AreFew : SourceNames → Type 0
AreFew source = All (λ base. base < 2 ^ 31) source.bases

-- what the numbers of a source stand for
abbrev pub names_of : Table → SourceNames → Names
names_of table source = record {
  at = at_of source;
  form = type_at table;
  type = λ t. get_or source.types t 0;
  pointer = λ t. get_or source.pointers t 0;
  object = object_of source;
  text = λ node. get_or source.by_node node 0;
  heap = λ node. get_or source.by_node node 0;
  hidden = λ node. get_or source.by_node node 0;
  inside = part_type table;
  declared = declared_node source.locals;
  slot = slot_of source.locals;
  function = λ n. get_or source.functions n 0;
  is_defined = λ n. get_or source.defined n false;
}

abbrev pub part_in : Table → SourceNames → TypedExpr → Part
part_in table source = part (names_of table source)

-- the node of an expression
abbrev pub node_of : TypedExpr → Node
node_of e = record { ordinal = e.ordinal; spot = e.spot; type = e.ty }
