-- Where a thread waits (POSIX pthread_mutex_lock, pthread_cond_wait, pthread_join).
use Rattle.std.specs.Prelude.{ℕ, Bool, false, not, slice_get, option_and_then}
use Rattle.std.specs.Option.{option_map_or}
use Rattle.lk_facts.specs.declared.action.Action.{Action}
use Rattle.lk_facts.specs.declared.action.Action.TheVariants as does
use Rattle.lk_facts.specs.declared.program.Program.{Program}
use Rattle.lk_cells.specs.declared.state.State.{State}
use Rattle.lk_cells.specs.declared.state.Thread.{Thread}
use Rattle.lk_cells.specs.Operands.{operand, id_in}
use Rattle.lk_cells.specs.Places as places
use Rattle.lk_cells.specs.Places.{is_taken}

-- the thread of an id hasn't ended
abbrev pub is_running : State → Thread → ℕ → Bool
is_running s thread a =
    option_map_or (λ other. not other.ended)
    (option_and_then (slice_get s.threads) (option_and_then (λ id. id) (id_in (operand thread a)))) false

-- A thread of the state s performs an action that no cause makes undefined.
module _ (program : Program) (s : State) (thread : Thread) where
  -- a mutex is owned, by whichever thread
  abbrev pub is_busy : ℕ → Bool
  is_busy a = is_taken (places.mutex_through program.types s (operand thread a))

  -- Whether an action waits where it stands.
  abbrev pub waits : Action → Bool
  waits (does.Value number ty) = false
  waits (does.Null ty) = false
  waits (does.Func f) = false
  waits does.SelfId = false
  waits (does.Root r) = false
  waits (does.Text r) = false
  waits (does.Field a k) = false
  waits (does.Index a b into) = false
  waits (does.Read a raw) = false
  waits (does.Write a b raw) = false
  waits (does.SlotRead slot) = false
  waits (does.SlotWrite slot a) = false
  waits (does.Unary op a) = false
  waits (does.Binary op a b) = false
  waits (does.Compute args ty equal) = false
  waits (does.Convert a ty) = false
  waits (does.Branch a) = false
  waits (does.Switch a cases) = false
  waits does.Skip = false
  waits (does.Call f args) = false
  waits (does.PointerCall a args) = false
  waits (does.Return a) = false
  waits (does.Create f a) = false
  waits (does.StoreId a) = false
  waits (does.Join a) = is_running s thread a
  waits (does.Detach a) = false
  waits does.ExitThread = false
  waits does.ExitProcess = false
  waits (does.Lock a) = is_busy a
  waits (does.Unlock a) = false
  waits (does.Release c a) = false
  waits (does.Retake a) = is_busy a
  waits (does.Init a) = false
  waits (does.Destroy a) = false
  waits (does.Signal a) = false
  waits (does.Allocate ty n zero r) = false
  waits (does.Free a) = false
  waits (does.Scan a) = false
  waits (does.Fill a place named) = false
