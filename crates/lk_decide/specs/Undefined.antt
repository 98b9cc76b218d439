-- Why the step of an action is undefined: for each action the causes that may hold, of which the first in the
-- order of `Why` is answered (C99 3.4.3, J.2; the POSIX pages of the functions).
use Rattle.std.specs.Prelude.{ℕ, map, Option, None, Some}
use Rattle.lk_facts.specs.declared.action.Action.{Action}
use Rattle.lk_facts.specs.declared.action.Action.TheVariants as does
use Rattle.lk_facts.specs.declared.program.Program.{Program}
use Rattle.lk_cells.specs.declared.state.State.{State}
use Rattle.lk_cells.specs.declared.state.Thread.{Thread}
use Rattle.lk_values.specs.Causes.{never}
use Rattle.lk_cells.specs.Operands.{operand, current, given, used, all_used}
use Rattle.lk_cells.specs.Places as places
use Rattle.lk_values.specs.declared.why.Why.{Why}
use Rattle.lk_decide.specs.Operators.{binary_row, convert_row, unary_row}
use Rattle.lk_decide.specs.Frames.{all_end, slot_cause, call_row, return_row}
use Rattle.lk_decide.specs.Threads.{join_row, detach_row}
use Rattle.lk_decide.specs.Accesses.{read_cause, free_row, place_row, read_row, index_row, write_row}
use Rattle.lk_decide.specs.Locks.{lock_row, unlock_row, signal_row, init_row, destroy_row, release_row}

-- The thread t of the state s performs an action in its frame.
module _ (program : Program) (s : State) (t : ℕ) (thread : Thread) where
  -- what holds of the pointer that an operand is, and of what it leads to
  abbrev followed : ℕ → Option Why
  followed a = places.followed s (operand thread a)

  -- Where each action is undefined.
  abbrev pub cause : Action → Option Why
  cause (does.Value number ty) = never
  cause (does.Null ty) = never
  cause (does.Func f) = never
  cause does.SelfId = never
  cause (does.Root r) = never
  cause (does.Text r) = never
  cause (does.Field a k) = followed a
  cause (does.Index a b into) = index_row program s thread a b into
  cause (does.Read a raw) = read_row program s thread a raw
  cause (does.Write a b raw) = write_row program s thread a b raw
  cause (does.SlotRead slot) = slot_cause thread.frame slot
  cause (does.SlotWrite slot a) = given (operand thread a)
  cause (does.Unary op a) = unary_row thread op a
  cause (does.Binary op a b) = binary_row program s thread op a b
  cause (does.Compute args ty equal) = all_used (map (operand thread) args)
  cause (does.Convert a ty) = convert_row program s thread a ty
  cause (does.Branch a) = used (operand thread a)
  cause (does.Switch a cases) = used (operand thread a)
  cause does.Skip = never
  cause (does.Call f args) = all_used (map (operand thread) args)
  cause (does.PointerCall a args) = call_row thread a args
  cause (does.Return a) = return_row s thread a
  cause (does.Create f a) = used (operand thread a)
  cause (does.StoreId a) = place_row program s (operand thread a)
  cause (does.Join a) = join_row s t (operand thread a)
  cause (does.Detach a) = detach_row s (operand thread a)
  cause does.ExitThread = all_end s thread
  cause does.ExitProcess = all_end s thread
  cause (does.Lock a) = lock_row program s (operand thread a)
  cause (does.Unlock a) = unlock_row program s t (operand thread a)
  cause (does.Release c a) = release_row program s t (operand thread c) (operand thread a)
  cause (does.Retake a) = lock_row program s (operand thread a)
  cause (does.Init a) = init_row program s (operand thread a)
  cause (does.Destroy a) = destroy_row program s (operand thread a)
  cause (does.Signal a) = signal_row program s (operand thread a)
  cause (does.Allocate ty None zero r) = never
  cause (does.Allocate ty (Some n) zero r) = used (operand thread n)
  cause (does.Free a) = free_row program s (operand thread a)
  cause (does.Scan a) = read_cause program s (current thread a)
  cause (does.Fill a place named) = init_row program s (current thread a)
