-- The parts that pointers lead to, and when they may be reached
-- (C99 6.2.4, 6.4.5, 6.5.3.2, 6.5.6; POSIX pthread_mutex_lock).
use Rattle.std.specs.Prelude.{ℕ, Bool, true, false, not, ◌&&◌, List, Option, None, Some, slice_get, option_and_then, if◌then◌else◌, nat_eq, ℤ}
use Rattle.std.specs.Option.{option_map_or}
use Rattle.lk_types.specs.declared.c_type.CType.{CType}
use Rattle.lk_cells.specs.Cells as cells
use Rattle.lk_cells.specs.Moves as moves
use Rattle.lk_types.specs.Table.{Table}
use Rattle.lk_values.specs.Pointers.{into_array}
use Rattle.lk_values.specs.declared.cell.Cell.{Cell}
use Rattle.lk_values.specs.declared.cell.Pointer.{Pointer as PointerTo}
use Rattle.lk_cells.specs.declared.kind.CellKind.{CellKind}
use Rattle.lk_cells.specs.declared.object.Object.{Object}
use Rattle.lk_base.specs.declared.cell.CellStep.{CellStep}
use Rattle.lk_cells.specs.declared.state.State.{State}
use Rattle.lk_values.specs.declared.value.Condition.{Condition}
use Rattle.lk_values.specs.declared.value.Condition.TheVariants as condition
use Rattle.lk_values.specs.declared.value.Mutex.{Mutex}
use Rattle.lk_values.specs.declared.value.Mutex.TheVariants as mutex
use Rattle.lk_values.specs.declared.value.Value.{Value}
use Rattle.lk_values.specs.declared.value.Value.TheVariants.{Number, Pointer, Function, Null, Thread, Indeterminate}
use Rattle.lk_values.specs.Causes.{◌or◌, ◌when◌}
use Rattle.lk_values.specs.declared.why.Why.{Why}
use Rattle.lk_values.specs.declared.why.Why.TheVariants as why

module _ (s : State) where
  -- whether the object of this number lives (C99 6.2.4)
  abbrev pub lives : ℕ → Bool
  lives object = option_map_or (λ found. found.lives) (slice_get s.objects object) false

  -- a pointer may be followed: it isn't null, its object lives, and it isn't one past a part (C99 6.5.3.2, 4)
  abbrev pub followed : Option Value → Option Why
  followed None = Some why.NoValue
  followed (Some (Number k n)) = Some why.WrongType
  followed (Some (Pointer p)) = why.Dead when not (lives p.part.object) or why.Outside when p.past
  followed (Some (Function f)) = Some why.WrongType
  followed (Some Null) = Some why.Null
  followed (Some (Thread t)) = Some why.WrongType
  followed (Some Indeterminate) = Some why.Indeterminate

  -- the part that a pointer leads to, where it may be followed
  abbrev pub part_of : Option Value → Option Cell
  part_of None = None
  part_of (Some (Number k n)) = None
  part_of (Some (Pointer p)) = if lives p.part.object && not p.past then Some p.part else None
  part_of (Some (Function f)) = None
  part_of (Some Null) = None
  part_of (Some (Thread t)) = None
  part_of (Some Indeterminate) = None

  -- what is read from the object of a part, at the path to the part
  abbrev pub in_object : {X : Type 0} → (Object → List CellStep → Option X) → Cell → Option X
  in_object read part = option_and_then (λ object. read object part.path) (slice_get s.objects part.object)

module _ (table : Table) (s : State) where
  -- the value in the cell that a pointer leads to
  abbrev pub value_through : Option Value → Option Value
  value_through v = option_and_then (in_object s (cells.value_at table)) (part_of s v)

  -- the mutex that a pointer leads to
  abbrev pub mutex_through : Option Value → Option Mutex
  mutex_through v = option_and_then (in_object s (cells.mutex_at table)) (part_of s v)

  -- the condition variable that a pointer leads to
  abbrev pub condition_through : Option Value → Option Condition
  condition_through v = option_and_then (in_object s (cells.condition_at table)) (part_of s v)

  -- what the cell is that a pointer leads to
  abbrev pub kind_through : Option Value → Option CellKind
  kind_through v = option_and_then (in_object s (cells.kind_at table)) (part_of s v)

  -- the form of the part that a pointer leads to
  abbrev pub form_through : Option Value → Option CType
  form_through v = option_and_then (in_object s (cells.form_at table)) (part_of s v)

  -- a pointer moved by a number of elements within its array and its end (C99 6.5.6, 8)
  abbrev pub moved_by : PointerTo → ℤ → Option PointerTo
  moved_by p n = option_and_then (λ object. moves.moved table object p n) (slice_get s.objects p.part.object)

  -- the pointer to an element of the array that a pointer leads to
  abbrev pub element_of : Cell → ℤ → Option PointerTo
  element_of part n = moved_by (into_array (record { part = part; past = false })) n

-- the states of a mutex in which it isn't ready, is owned, or isn't owned by a thread
abbrev pub is_unready : Option Mutex → Bool
is_unready None = false
is_unready (Some mutex.NotReady) = true
is_unready (Some mutex.Free) = false
is_unready (Some (mutex.Owned t)) = false

abbrev pub is_taken : Option Mutex → Bool
is_taken None = false
is_taken (Some mutex.NotReady) = false
is_taken (Some mutex.Free) = false
is_taken (Some (mutex.Owned t)) = true

abbrev pub is_not_of : ℕ → Option Mutex → Bool
is_not_of t None = false
is_not_of t (Some mutex.NotReady) = true
is_not_of t (Some mutex.Free) = true
is_not_of t (Some (mutex.Owned u)) = not (nat_eq u t)

-- whether a condition variable isn't ready
abbrev pub is_condition_unready : Option Condition → Bool
is_condition_unready None = false
is_condition_unready (Some condition.NotReady) = true
is_condition_unready (Some condition.Ready) = false
