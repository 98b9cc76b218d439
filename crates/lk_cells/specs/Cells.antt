-- What cells hold (C99 6.2.6.1, 6.7.8; POSIX pthread_mutex_init, pthread_cond_init).
use Rattle.std.specs.Prelude.{ℕ, Bool, true, false, List, [], Option, None, Some, option_and_then, unwrap_or, nat_eq, ℤ, pos}
use Rattle.std.specs.List.{position_from}
use Rattle.std.specs.Map.{lookup}
use Rattle.std.specs.Option.{option_map, option_or}
use Rattle.indexmap.specs.IndexMap.{insert_entry}
use Rattle.lk_types.specs.Table.{Table}
use Rattle.lk_types.specs.declared.c_type.CType.{CType}
use Rattle.lk_types.specs.declared.c_type.CType.TheVariants as type
use Rattle.lk_cells.specs.Parts.{form_of, type_along}
use Rattle.lk_values.specs.Paths.{is_path}
use Rattle.lk_cells.specs.declared.kind.CellKind.{CellKind}
use Rattle.lk_cells.specs.declared.kind.CellKind.TheVariants as cell
use Rattle.lk_cells.specs.declared.object.Initial.{Initial}
use Rattle.lk_cells.specs.declared.object.Initial.TheVariants as initial
use Rattle.lk_cells.specs.declared.object.Object.{Object}
use Rattle.lk_values.specs.Values.{is_any_owned}
use Rattle.lk_base.specs.declared.cell.CellStep.{CellStep}
use Rattle.lk_base.specs.declared.kind.Kind.{Kind}
use Rattle.lk_values.specs.declared.value.Condition.{Condition}
use Rattle.lk_values.specs.declared.value.Condition.TheVariants as condition
use Rattle.lk_values.specs.declared.value.Mutex.{Mutex}
use Rattle.lk_values.specs.declared.value.Mutex.TheVariants as mutex
use Rattle.lk_values.specs.declared.value.Value.{Value}
use Rattle.lk_values.specs.declared.value.Value.TheVariants.{Number, Null, Thread, Indeterminate}

-- the value of a scalar type whose bits are zero, as static storage begins with
-- (C99 6.7.8, 10); others have none
abbrev pub zero_of : CType → Option Value
zero_of type.Void = None
zero_of (type.Int kind) = Some (Number kind (pos 0))
zero_of type.ThreadId = Some (Thread None)
zero_of type.Mutex = None
zero_of type.Cond = None
zero_of (type.Pointer t) = Some Null
zero_of (type.Array t n) = None
zero_of (type.Struct s) = None
zero_of (type.Function result params dots) = None
zero_of (type.Opaque n) = None

-- the kind of an integer type (C99 6.2.5, 17)
abbrev pub int_kind : CType → Option Kind
int_kind type.Void = None
int_kind (type.Int kind) = Some kind
int_kind type.ThreadId = None
int_kind type.Mutex = None
int_kind type.Cond = None
int_kind (type.Pointer t) = None
int_kind (type.Array t n) = None
int_kind (type.Struct s) = None
int_kind (type.Function result params dots) = None
int_kind (type.Opaque n) = None

-- a number as a value of an integer type
abbrev pub number_of_type : CType → ℤ → Option Value
number_of_type form n = option_map (λ kind. Number kind n) (int_kind form)

-- what a cell of a scalar type holds before anything is put into it
abbrev pub first_value : Initial → CType → Option Value
first_value initial.Zero form = zero_of form
first_value initial.Indeterminate form = option_map (λ zero. Indeterminate) (zero_of form)

abbrev pub first_mutex : Initial → Mutex
first_mutex initial.Zero = mutex.Free
first_mutex initial.Indeterminate = mutex.NotReady

abbrev pub first_condition : Initial → Condition
first_condition initial.Zero = condition.Ready
first_condition initial.Indeterminate = condition.NotReady

-- what a cell of a type is, for the types that have no parts (C99 6.2.5, 21; POSIX sys/types.h)
abbrev pub kind_of : CType → Option CellKind
kind_of type.Void = None
kind_of (type.Int kind) = Some cell.Value
kind_of type.ThreadId = Some cell.Value
kind_of type.Mutex = Some cell.Mutex
kind_of type.Cond = Some cell.Condition
kind_of (type.Pointer t) = Some cell.Value
kind_of (type.Array t n) = None
kind_of (type.Struct s) = None
kind_of (type.Function result params dots) = None
kind_of (type.Opaque n) = None

module _ {V : Type 0} where
  -- what a table of cells has at a path
  abbrev pub found_at : List (List CellStep × V) → List CellStep → Option V
  found_at entries path = lookup (is_path path) entries

  -- the table with something put at a path, in the place of what it had there
  abbrev pub put_at : List (List CellStep × V) → List CellStep → V → List (List CellStep × V)
  put_at entries path v = insert_entry is_path entries path v

module _ (table : Table) (object : Object) (path : List CellStep) where
  -- the form of the part at a path, where there is one
  abbrev pub form_at : Option CType
  form_at = option_and_then (form_of table) (type_along table object.length path object.ty)

  -- the value that a cell holds: what was put into it, else what it held at first
  abbrev pub value_at : Option Value
  value_at = option_or (found_at object.values path) (option_and_then (first_value object.initial) form_at)

  abbrev mutex_of_kind : CellKind → Option Mutex
  mutex_of_kind cell.Value = None
  mutex_of_kind cell.Mutex = Some (unwrap_or (found_at object.mutexes path) (first_mutex object.initial))
  mutex_of_kind cell.Condition = None

  abbrev condition_of_kind : CellKind → Option Condition
  condition_of_kind cell.Value = None
  condition_of_kind cell.Mutex = None
  condition_of_kind cell.Condition =
      Some (unwrap_or (found_at object.conditions path) (first_condition object.initial))

  -- what the cell at a path is
  abbrev pub kind_at : Option CellKind
  kind_at = option_and_then kind_of form_at

  -- the state of the mutex at a path, where there is one: what it was made, else what it was at first
  abbrev pub mutex_at : Option Mutex
  mutex_at = option_and_then mutex_of_kind kind_at

  -- the state of the condition variable at a path, likewise
  abbrev pub condition_at : Option Condition
  condition_at = option_and_then condition_of_kind kind_at

-- whether a mutex in the object is owned
abbrev pub has_owned : Object → Bool
has_owned object = is_any_owned object.mutexes

-- an object that begins its life
abbrev pub new_object : ℕ → ℕ → ℕ → Initial → Object
new_object r ty count first =
    record { root = r; ty = ty; length = count; lives = true; initial = first; values = []; mutexes = []; conditions = [] }

-- the object with a value, a mutex or a condition variable put at a path; and the object
-- after its life (C99 6.2.4, 2)
abbrev pub with_value : Object → List CellStep → Value → Object
with_value object path v = record object { values = put_at object.values path v }

abbrev pub with_mutex : Object → List CellStep → Mutex → Object
with_mutex object path m = record object { mutexes = put_at object.mutexes path m }

abbrev pub with_condition : Object → List CellStep → Condition → Object
with_condition object path c = record object { conditions = put_at object.conditions path c }

abbrev pub after_life : Object → Object
after_life object = record object { lives = false }

-- the number of the first object of a root; one of static storage has just one
abbrev pub object_of_root : List Object → ℕ → Option ℕ
object_of_root objects r = position_from (λ object. nat_eq object.root r) 0 objects
