-- Why a cell may not be read, written or freed, or a pointer moved (C99 6.3.2.1, 6.5.2.1, 6.5.6, 7.20.3.2).
use Rattle.std.specs.Prelude.{ℕ, Bool, true, false, not, Option, None, Some, option_and_then, ℤ, if◌then◌else◌, is_none, ◌&&◌}
use Rattle.std.specs.Option.{option_map_or, option_eq}
use Rattle.lk_facts.specs.declared.program.Program.{Program}
use Rattle.lk_values.specs.Paths.{is_path}
use Rattle.lk_values.specs.Pointers as pointers
use Rattle.lk_decide.specs.Roots as roots
use Rattle.lk_values.specs.declared.cell.Pointer.{Pointer as PointerTo}
use Rattle.lk_cells.specs.declared.state.State.{State}
use Rattle.lk_cells.specs.declared.state.Thread.{Thread}
use Rattle.lk_values.specs.declared.value.Value.{Value}
use Rattle.lk_values.specs.declared.value.Value.TheVariants.{Number, Pointer, Function, Null, Thread as Id, Indeterminate}
use Rattle.lk_values.specs.Causes.{◌or◌, ◌when◌, never}
use Rattle.lk_cells.specs.Operands as operands
use Rattle.lk_cells.specs.Operands.{operand, given, used, is_indeterminate}
use Rattle.lk_cells.specs.Places as places
use Rattle.lk_values.specs.declared.why.Why.{Why}
use Rattle.lk_values.specs.declared.why.Why.TheVariants as why
use Rattle.lk_decide.specs.Frames.{is_owned_in}

module _ (program : Program) (s : State) where
  -- a pointer is moved within its array and its end (C99 6.5.6, 8)
  abbrev pub move_cause : PointerTo → Option ℤ → Option Why
  move_cause p None = never
  move_cause p (Some n) = why.Outside when is_none (places.moved_by program.types s p n)

  -- `e[i]`: the pointer may be followed in its array, and moves within it and its end (C99 6.5.2.1, 6.5.6, 8)
  abbrev pub moved_cause : Option Value → Option ℤ → Option Why
  moved_cause None by = never
  moved_cause (Some (Number k n)) by = Some why.WrongType
  moved_cause (Some (Pointer p)) by = why.Dead when not (places.lives s p.part.object) or move_cause p by
  moved_cause (Some (Function f)) by = Some why.WrongType
  moved_cause (Some Null) by = Some why.Null
  moved_cause (Some (Id u)) by = Some why.WrongType
  moved_cause (Some Indeterminate) by = never

  -- an element of an array: the array is there, and has it or ends before it (C99 6.3.2.1, 3; 6.5.6, 8)
  abbrev pub element_cause : Option Value → Option ℤ → Option Why
  element_cause v by =
      places.followed s v or option_map_or
      (λ part. move_cause (pointers.into_array (record { part = part; past = false })) by)
      (places.part_of s v) never

  -- an index of an array or a pointer (C99 6.5.2.1)
  abbrev pub index_cause : Bool → Option Value → Option ℤ → Option Why
  index_cause true v by = element_cause v by
  index_cause false v by = moved_cause v by

  -- a cell is read: what it holds isn't indeterminate (C99 6.3.2.1, 2)
  abbrev pub read_cause : Option Value → Option Why
  read_cause v =
      places.followed s v or why.Indeterminate when is_indeterminate (places.value_through program.types s v)

  -- whether a pointer is what an allocation gave, to an object that lives (C99 7.20.3.2, 2)
  abbrev pub is_start : PointerTo → Bool
  is_start p =
      places.lives s p.part.object && not p.past
      && option_eq is_path (option_and_then roots.start_of (roots.kind_of_object program s p.part.object))
      (Some p.part.path)

  -- an object is freed: its life ends, where that is the start of one that was allocated (C99 7.20.3.2)
  abbrev pub free_cause : Option Value → Option Why
  free_cause None = never
  free_cause (Some (Number k n)) = Some why.WrongType
  free_cause (Some (Pointer p)) = if is_start p then why.OwnedLock when is_owned_in s p.part.object
      else Some why.BadFree
  free_cause (Some (Function f)) = Some why.BadFree
  free_cause (Some Null) = never
  free_cause (Some (Id u)) = Some why.WrongType
  free_cause (Some Indeterminate) = never

  -- an object is freed by a pointer, which is used
  abbrev pub free_row : Option Value → Option Why
  free_row v = used v or free_cause v

  -- a place is written with a thread's id (POSIX pthread_create)
  abbrev pub place_row : Option Value → Option Why
  place_row v = places.followed s v or roots.constant program s v

  -- a cell is read; `raw` where what it holds may be indeterminate
  abbrev pub read_row : Thread → ℕ → Bool → Option Why
  read_row thread a raw = if raw then places.followed s (operand thread a) else read_cause (operand thread a)

  -- an index is applied to its operands, which are used
  abbrev pub index_row : Thread → ℕ → ℕ → Bool → Option Why
  index_row thread a b into =
      used (operand thread a) or used (operand thread b) or index_cause into (operand thread a)
      (operands.number_in (operand thread b))

  -- a cell is written with a value, which isn't indeterminate; with `raw` it may be
  abbrev pub write_row : Thread → ℕ → ℕ → Bool → Option Why
  write_row thread a b raw =
      places.followed s (operand thread a) or roots.constant program s (operand thread a) or
      (if raw then given (operand thread b) else used (operand thread b))
