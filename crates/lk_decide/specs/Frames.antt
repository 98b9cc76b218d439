-- Why the end of a frame, the use of a slot or a call through a pointer is undefined
-- (C99 6.2.4, 6.5.2.2, 6.8.6.4).
use Rattle.std.specs.Prelude.{ℕ, Bool, false, ◌||◌, List, map, Option, None, Some, slice_get}
use Rattle.std.specs.List.{list_any}
use Rattle.std.specs.Option.{option_map_or}
use Rattle.lk_cells.specs.Cells.{has_owned}
use Rattle.lk_cells.specs.declared.state.Frame.{Frame}
use Rattle.lk_cells.specs.declared.state.State.{State}
use Rattle.lk_cells.specs.declared.state.Thread.{Thread}
use Rattle.lk_values.specs.declared.value.Value.{Value}
use Rattle.lk_values.specs.declared.value.Value.TheVariants.{Number, Pointer, Function, Null, Thread as Id, Indeterminate}
use Rattle.lk_values.specs.Causes.{◌or◌, ◌when◌, never}
use Rattle.lk_cells.specs.Operands.{operand, given, all_used, is_indeterminate}
use Rattle.lk_values.specs.declared.why.Why.{Why}
use Rattle.lk_values.specs.declared.why.Why.TheVariants as why

module _ (s : State) where
  -- whether a mutex in the object of this number is owned
  abbrev pub is_owned_in : ℕ → Bool
  is_owned_in o = option_map_or has_owned (slice_get s.objects o) false

  -- whether a mutex is owned in an object of a frame's locals
  abbrev pub is_owned_by : Frame → Bool
  is_owned_by frame = list_any (λ local. is_owned_in local.object) frame.locals

  -- a frame ends with its locals, or all frames of a thread do: no mutex in them is owned
  -- (POSIX pthread_mutex_destroy)
  abbrev pub own_end : Thread → Option Why
  own_end thread = why.OwnedLock when is_owned_by thread.frame

  abbrev pub all_end : Thread → Option Why
  all_end thread = why.OwnedLock when (is_owned_by thread.frame || list_any is_owned_by thread.below)

-- a slot's value is used (C99 6.2.4, 5)
abbrev pub slot_cause : Frame → ℕ → Option Why
slot_cause frame slot = why.Indeterminate when is_indeterminate (slice_get frame.slots slot)

-- a function is called through a pointer (C99 6.5.2.2)
abbrev pub callee_cause : Option Value → Option Why
callee_cause None = Some why.NoValue
callee_cause (Some (Number k n)) = Some why.WrongType
callee_cause (Some (Pointer p)) = Some why.WrongType
callee_cause (Some (Function f)) = never
callee_cause (Some Null) = Some why.Null
callee_cause (Some (Id u)) = Some why.WrongType
callee_cause (Some Indeterminate) = Some why.Indeterminate

-- a function is called through a pointer with arguments, which are used
abbrev pub call_row : Thread → ℕ → List ℕ → Option Why
call_row thread a args = callee_cause (operand thread a) or all_used (map (operand thread) args)

-- a function returns, with the value of an operand where there is one (C99 6.8.6.4)
abbrev pub return_row : State → Thread → Option ℕ → Option Why
return_row s thread None = own_end s thread
return_row s thread (Some a) = given (operand thread a) or own_end s thread
