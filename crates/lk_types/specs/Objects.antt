-- What an object of a type is made of: its scalar parts, its bytes, and its parts with indices counted up.
use Rattle.std.specs.Prelude.{ℕ, ◌*◌, zero, suc, Bool, true, false, ◌&&◌, ◌||◌, ◌++◌, List, [], ◌∷◌, map, filter, Option, None, Some, if◌then◌else◌, nat_eq}
use Rattle.std.specs.List.{list_all, flat_map, range_with_len}
use Rattle.std.specs.Option.{option_map}
use Rattle.lk_base.specs.declared.kind.Kind.{Kind}
use Rattle.lk_base.specs.declared.kind.Kind.TheVariants.{Bool as BoolKind, Char, SChar, UChar, Short, UShort, Int as IntKind, UInt, Long, ULong, LLong, ULLong}
use Rattle.lk_types.specs.Table.{Table, type_at, fields_of}
use Rattle.lk_types.specs.Walks.{Entry, nodes, most_steps}
use Rattle.lk_types.specs.declared.c_type.CType.{CType}
use Rattle.lk_types.specs.declared.c_type.CType.TheVariants.{Void, Int, ThreadId, Mutex, Cond, Pointer, Array, Struct, Function, Opaque}
use Rattle.lk_base.specs.declared.cell.CellStep.{CellStep}
use Rattle.lk_base.specs.declared.cell.CellStep.TheVariants.{Field as Member, Index}
use Rattle.lk_types.specs.declared.node.Sel.{Sel}
use Rattle.lk_types.specs.declared.node.Sel.TheVariants.{Target, Element, Field, Part}

-- whether an object of this form holds a value
abbrev pub is_value : CType → Bool
is_value Void = false
is_value (Int kind) = true
is_value ThreadId = true
is_value Mutex = false
is_value Cond = false
is_value (Pointer t) = true
is_value (Array t n) = false
is_value (Struct s) = false
is_value (Function result params dots) = false
is_value (Opaque n) = false

abbrev pub is_mutex : CType → Bool
is_mutex Void = false
is_mutex (Int kind) = false
is_mutex ThreadId = false
is_mutex Mutex = true
is_mutex Cond = false
is_mutex (Pointer t) = false
is_mutex (Array t n) = false
is_mutex (Struct s) = false
is_mutex (Function result params dots) = false
is_mutex (Opaque n) = false

abbrev pub is_cond : CType → Bool
is_cond Void = false
is_cond (Int kind) = false
is_cond ThreadId = false
is_cond Mutex = false
is_cond Cond = true
is_cond (Pointer t) = false
is_cond (Array t n) = false
is_cond (Struct s) = false
is_cond (Function result params dots) = false
is_cond (Opaque n) = false

-- whether an object of this form is a cell: it holds a value, or is a mutex or a condition variable
abbrev pub is_cell : CType → Bool
is_cell form = is_value form || is_mutex form || is_cond form

-- a step into a part of the same object
abbrev pub stays_inside : Sel → Bool
stays_inside Target = false
stays_inside Element = true
stays_inside (Field k) = true
stays_inside (Part t) = false

abbrev pub is_inside : Entry → Bool
is_inside entry = list_all stays_inside entry.path

-- the parts of an object type of some forms, with their paths, indices forgotten, in the order of the walk
abbrev pub parts_of : (CType → Bool) → Table → ℕ → List Entry
parts_of test table t = filter (λ entry. is_inside entry && test (type_at table entry.type)) (nodes table t)

-- the parts that hold values: those that are locations
abbrev pub value_parts : Table → ℕ → List Entry
value_parts table t = parts_of is_value table t

abbrev pub mutex_parts : Table → ℕ → List Entry
mutex_parts table t = parts_of is_mutex table t

abbrev pub cond_parts : Table → ℕ → List Entry
cond_parts table t = parts_of is_cond table t

-- the bytes of an integer kind
abbrev pub bytes_of_kind : Kind → ℕ
bytes_of_kind BoolKind = 1
bytes_of_kind Char = 1
bytes_of_kind SChar = 1
bytes_of_kind UChar = 1
bytes_of_kind Short = 2
bytes_of_kind UShort = 2
bytes_of_kind IntKind = 4
bytes_of_kind UInt = 4
bytes_of_kind Long = 8
bytes_of_kind ULong = 8
bytes_of_kind LLong = 8
bytes_of_kind ULLong = 8

-- the bytes that `sizeof` counts for a form (C99 6.5.3.4), where those of an element are known by `below`.
-- The bytes of a struct are never counted, and neither are those of a mutex or a condition variable.
abbrev pub form_bytes : (ℕ → Option ℕ) → CType → Option ℕ
form_bytes below Void = None
form_bytes below (Int kind) = Some (bytes_of_kind kind)
form_bytes below ThreadId = Some 8
form_bytes below Mutex = None
form_bytes below Cond = None
form_bytes below (Pointer t) = Some 8
form_bytes below (Array t n) = if nat_eq n 0 then None else option_map (λ bytes. n * bytes) (below t)
form_bytes below (Struct s) = None
form_bytes below (Function result params dots) = None
form_bytes below (Opaque n) = None

-- the same of a type, in an array of arrays down to a depth
unfoldable pub bytes_within : ℕ → Table → ℕ → Option ℕ
bytes_within zero table t = None
bytes_within (suc depth) table t = form_bytes (bytes_within depth table) (type_at table t)

-- the bytes of a type; elements have lesser numbers than their array
abbrev pub bytes_of : Table → ℕ → Option ℕ
bytes_of table t = bytes_within (suc t) table t

-- so many numbers from one on, in order
abbrev pub numbers_from : ℕ → ℕ → List ℕ
numbers_from first zero = []
numbers_from first (suc n) = first ∷ numbers_from (suc first) n

-- a scalar part of an object: the steps to it, and its type
abbrev pub Cells : Type 0
Cells = List (List CellStep × ℕ)

abbrev pub cells_under : CellStep → Cells → Cells
cells_under step cells = map (λ cell. (step ∷ cell.0, cell.1)) cells

-- the cells of members numbered from k on
abbrev pub member_cells : (ℕ → Cells) → ℕ → List ℕ → Cells
member_cells below k [] = []
member_cells below k (t ∷ ts) = cells_under (Member k) (below t) ++ member_cells below (suc k) ts

-- the cells of a form, in the order of members and of indices counted up
abbrev pub form_cells : (ℕ → Cells) → Table → ℕ → CType → Cells
form_cells below table t Void = []
form_cells below table t (Int kind) = ([], t) ∷ []
form_cells below table t ThreadId = ([], t) ∷ []
form_cells below table t Mutex = ([], t) ∷ []
form_cells below table t Cond = ([], t) ∷ []
form_cells below table t (Pointer u) = ([], t) ∷ []
form_cells below table t (Array u n) = flat_map (λ i. cells_under (Index i) (below u)) (range_with_len 0 n)
form_cells below table t (Struct s) = member_cells below 0 (fields_of table (Struct s))
form_cells below table t (Function result params dots) = []
form_cells below table t (Opaque n) = []

-- the same of a type, down to a depth
unfoldable pub cells_within : ℕ → Table → ℕ → Cells
cells_within zero table t = form_cells (λ u. []) table t (type_at table t)
cells_within (suc depth) table t = form_cells (cells_within depth table) table t (type_at table t)

-- the cells of an object, each scalar part by its steps, in order
abbrev pub cells : Table → ℕ → Cells
cells table t = cells_within most_steps table t
