-- Runs, and what threads touch next (C99 5.1.2.3; POSIX Base Definitions 4.11).
use Rattle.std.specs.Prelude.{◌≡◌, ◌≢◌, ℕ, Bool, true, false, Option, None, Some, slice_get, option_and_then, if◌then◌else◌, ◌||◌, IsTrue}
use Rattle.std.specs.Option.{option_map}
use Rattle.lk_facts.specs.Program.{action_at}
use Rattle.lk_facts.specs.declared.action.Action.{Action}
use Rattle.lk_facts.specs.declared.action.Action.TheVariants as does
use Rattle.lk_facts.specs.declared.program.Program.{Program}
use Rattle.lk_values.specs.declared.cell.Cell.{Cell}
use Rattle.lk_cells.specs.declared.state.State.{State}
use Rattle.lk_cells.specs.declared.state.Thread.{Thread}
use Rattle.lk_values.specs.declared.value.Value.{Value}
use Rattle.lk_cells.specs.Places as places
use Rattle.lk_cells.specs.Operands.{operand, current}
use Rattle.lk_meaning.specs.declared.touching.Touched.{Touched}

-- the cell that a pointer leads to, which is to be read or written
abbrev pub through : State → Bool → Option Value → Option Touched
through s writes v = option_map (λ cell. record { cell = cell; writes = writes }) (places.part_of s v)

-- the same from the cell on at which the point stands
abbrev pub through_current : State → Thread → ℕ → Bool → Option Touched
through_current s thread a writes = through s writes (current thread a)

module _ (s : State) (thread : Thread) where
  -- the accesses: Read, Write, StoreId, Scan and Fill
  abbrev pub touched_by : Action → Option Touched
  touched_by (does.Value number ty) = None
  touched_by (does.Null ty) = None
  touched_by (does.Func f) = None
  touched_by does.SelfId = None
  touched_by (does.Root r) = None
  touched_by (does.Text r) = None
  touched_by (does.Field a k) = None
  touched_by (does.Index a b into) = None
  touched_by (does.Read a raw) = through s false (operand thread a)
  touched_by (does.Write a b raw) = through s true (operand thread a)
  touched_by (does.SlotRead slot) = None
  touched_by (does.SlotWrite slot a) = None
  touched_by (does.Unary op a) = None
  touched_by (does.Binary op a b) = None
  touched_by (does.Compute args ty equal) = None
  touched_by (does.Convert a ty) = None
  touched_by (does.Branch a) = None
  touched_by (does.Switch a cases) = None
  touched_by does.Skip = None
  touched_by (does.Call f args) = None
  touched_by (does.PointerCall a args) = None
  touched_by (does.Return a) = None
  touched_by (does.Create f a) = None
  touched_by (does.StoreId a) = through s true (operand thread a)
  touched_by (does.Join a) = None
  touched_by (does.Detach a) = None
  touched_by does.ExitThread = None
  touched_by does.ExitProcess = None
  touched_by (does.Lock a) = None
  touched_by (does.Unlock a) = None
  touched_by (does.Release c a) = None
  touched_by (does.Retake a) = None
  touched_by (does.Init a) = None
  touched_by (does.Destroy a) = None
  touched_by (does.Signal a) = None
  touched_by (does.Allocate ty n zero r) = None
  touched_by (does.Free a) = None
  touched_by (does.Scan a) = through_current s thread a false
  touched_by (does.Fill a place named) = through_current s thread a true

-- Touch: the cell that the point of the thread t reads or writes next, and whether it writes. There
-- is none where the thread isn't there, or it or the process has ended, or the operand leads to no
-- part of an object that lives.
abbrev pub touch : Program → State → ℕ → Option Touched
touch program s t =
    option_and_then (λ thread. if thread.ended
    || s.ended then None else option_and_then (touched_by s thread)
    (action_at program thread.frame.point)) (slice_get s.threads t)

-- Race: two threads are about to touch one cell of an object that lives, and one of them is to write it
-- (POSIX Base Definitions 4.11)
pub record Race (program : Program) (s : State) (c : Cell) : Type 0 where
  pub lives : IsTrue (places.lives s c.object)
  pub first : ℕ
  pub second : ℕ
  pub different : first ≢ second
  pub first_writes : Bool
  pub second_writes : Bool
  pub first_touches : touch program s first ≡ Some (record { cell = c; writes = first_writes })
  pub second_touches : touch program s second ≡ Some (record { cell = c; writes = second_writes })
  pub writes : (first_writes || second_writes) ≡ true
