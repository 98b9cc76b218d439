-- What the step of each action does, where no cause makes it undefined and it doesn't wait: what its
-- point gives, where the thread goes, and what else it changes (C99 6.3, 6.5, 6.7.8, 6.8, 7.19, 7.20;
-- the POSIX pages of the functions). There is nothing where an operand is none that the action takes,
-- which lowered points never have.
use Rattle.std.specs.Prelude.{ℕ, Option, Some, slice_get, option_and_then}
use Rattle.lk_facts.specs.declared.action.Action.{Action}
use Rattle.lk_facts.specs.declared.action.Action.TheVariants as does
use Rattle.lk_facts.specs.declared.program.Program.{Program}
use Rattle.lk_cells.specs.Cells.{number_of_type}
use Rattle.lk_cells.specs.Parts.{form_of}
use Rattle.lk_cells.specs.declared.state.State.{State}
use Rattle.lk_cells.specs.declared.state.Thread.{Thread}
use Rattle.lk_values.specs.declared.value.Value.{Value}
use Rattle.lk_values.specs.declared.value.Value.TheVariants.{Function, Null, Thread as Id}
use Rattle.lk_cells.specs.Operands.{operand, current}
use Rattle.lk_cells.specs.Places as places
use Rattle.lk_change.specs.declared.change.Change.{Change}
use Rattle.lk_change.specs.declared.change.Change.TheVariants.{EndThread, EndProcess}
use Rattle.lk_change.specs.declared.change.Effect.TheVariants as effect
use Rattle.lk_change.specs.Going.{gives, changes}
use Rattle.lk_change.specs.Numbers.{unary_value, converted_value, gives_binary, computes}
use Rattle.lk_change.specs.Pointers.{pointer_to_root, member_of, index_of}
use Rattle.lk_change.specs.Locks.{locks, retakes, unlocks, initialises, destroys, releases_by, signals}
use Rattle.lk_change.specs.Calls.{enters, enters_through, returns_by, branched, switched}
use Rattle.lk_change.specs.Threads.{begins, joins, detaches}
use Rattle.lk_change.specs.Births.{allocates_by, frees}
use Rattle.lk_change.specs.Accesses.{slot_put, scans, writes, stores_id}
use Rattle.lk_change.specs.Fills.{fills}

-- The thread t of the state s performs the action of its point, with the word w.
module _ (program : Program) (s : State) (t : ℕ) (thread : Thread) (w : ℕ) where
  abbrev p : ℕ
  p = thread.frame.point

  abbrev value : ℕ → Option Value
  value a = operand thread a

  -- What the step of each action does.
  abbrev pub change : Action → Option Change
  change (does.Value number ty) =
      gives program p (option_and_then (λ form. number_of_type form number) (form_of program.types ty))
  change (does.Null ty) = gives program p (Some Null)
  change (does.Func f) = gives program p (Some (Function f))
  change does.SelfId = gives program p (Some (Id (Some t)))
  change (does.Root r) = gives program p (pointer_to_root program s thread.frame r)
  change (does.Text r) = gives program p (pointer_to_root program s thread.frame r)
  change (does.Field a k) = gives program p (member_of s (value a) k)
  change (does.Index a b into) = gives program p (index_of program s into (value a) (value b))
  change (does.Read a raw) = gives program p (places.value_through program.types s (value a))
  change (does.Write a b raw) = writes program s thread a b
  change (does.SlotRead slot) = gives program p (slice_get thread.frame.slots slot)
  change (does.SlotWrite slot a) = slot_put program p slot (value a)
  change (does.Unary op a) = gives program p (unary_value op (value a))
  change (does.Binary op a b) = gives_binary program s thread op a b
  change (does.Compute args ty equal) = computes program thread w args ty equal
  change (does.Convert a ty) = gives program p (converted_value program s a ty (value a))
  change (does.Branch a) = branched program p (value a)
  change (does.Switch a cases) = switched program p (value a) cases
  change does.Skip = changes program p (Some effect.Nothing)
  change (does.Call f args) = enters program thread f args
  change (does.PointerCall a args) = enters_through program thread a args
  change (does.Return a) = returns_by program t thread a
  change (does.Create f a) = option_and_then (begins program p w f) (value a)
  change (does.StoreId a) = stores_id program s thread a
  change (does.Join a) = joins program p (value a)
  change (does.Detach a) = detaches program p (value a)
  change does.ExitThread = Some EndThread
  change does.ExitProcess = Some EndProcess
  change (does.Lock a) = locks program s t thread a
  change (does.Unlock a) = unlocks program s thread a
  change (does.Release c a) = releases_by program s thread c a
  change (does.Retake a) = retakes program s t thread a
  change (does.Init a) = initialises program s thread a
  change (does.Destroy a) = destroys program s thread a
  change (does.Signal a) = signals program s p (value a)
  change (does.Allocate ty count zero r) = allocates_by program s thread w r zero count
  change (does.Free a) = frees program p (value a)
  change (does.Scan a) = scans program s p w (current thread a)
  change (does.Fill a place named) = fills program s p named (current thread a)
