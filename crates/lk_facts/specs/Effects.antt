-- What an action is to the analysis. The rules speak of this alone.
use Rattle.std.specs.Prelude.{ℕ, Bool, true, false, Option, Some, None}
use Rattle.lk_facts.specs.declared.action.Action.{Action}
use Rattle.lk_facts.specs.declared.action.Action.TheVariants as action
use Rattle.lk_facts.specs.declared.effect.Effect.{Effect}
use Rattle.lk_facts.specs.declared.effect.Effect.TheVariants.{Nothing, Reads, Writes, Takes, Frees, Runs, RunsThrough, Starts}

-- Release and Retake are nothing: a wait has the mutex again when it is over (POSIX pthread_cond_wait).
abbrev pub effect_of : Action → Effect
effect_of (action.Value number ty) = Nothing
effect_of (action.Null ty) = Nothing
effect_of (action.Func f) = Nothing
effect_of action.SelfId = Nothing
effect_of (action.Root r) = Nothing
effect_of (action.Text r) = Nothing
effect_of (action.Field a member) = Nothing
effect_of (action.Index a b into) = Nothing
effect_of (action.Read a raw) = Reads a
effect_of (action.Write a b raw) = Writes a
effect_of (action.SlotRead s) = Nothing
effect_of (action.SlotWrite s a) = Nothing
effect_of (action.Unary op a) = Nothing
effect_of (action.Binary op a b) = Nothing
effect_of (action.Compute args ty equal) = Nothing
effect_of (action.Convert a ty) = Nothing
effect_of (action.Branch a) = Nothing
effect_of (action.Switch a cases) = Nothing
effect_of action.Skip = Nothing
effect_of (action.Call f args) = Runs f
effect_of (action.PointerCall a args) = RunsThrough a
effect_of (action.Return a) = Nothing
effect_of (action.Create f a) = Starts f
effect_of (action.StoreId a) = Writes a
effect_of (action.Join a) = Nothing
effect_of (action.Detach a) = Nothing
effect_of action.ExitThread = Nothing
effect_of action.ExitProcess = Nothing
effect_of (action.Lock a) = Takes a
effect_of (action.Unlock a) = Frees a
effect_of (action.Release cond mutex) = Nothing
effect_of (action.Retake a) = Nothing
effect_of (action.Init a) = Nothing
effect_of (action.Destroy a) = Nothing
effect_of (action.Signal a) = Nothing
effect_of (action.Allocate ty count zero root) = Nothing
effect_of (action.Free a) = Nothing
effect_of (action.Scan a) = Reads a
effect_of (action.Fill a place named) = Writes a

-- the operand through which it accesses cells
abbrev pub accessed : Effect → Option ℕ
accessed (Reads a) = Some a
accessed (Writes a) = Some a
accessed Nothing = None
accessed (Takes a) = None
accessed (Frees a) = None
accessed (Runs f) = None
accessed (RunsThrough a) = None
accessed (Starts f) = None

-- whether it writes the cells that it accesses
abbrev pub writes : Effect → Bool
writes (Writes a) = true
writes Nothing = false
writes (Reads a) = false
writes (Takes a) = false
writes (Frees a) = false
writes (Runs f) = false
writes (RunsThrough a) = false
writes (Starts f) = false

-- the function that it goes into by its number, to run it or to start a thread there
abbrev pub entered : Effect → Option ℕ
entered (Runs f) = Some f
entered (Starts f) = Some f
entered Nothing = None
entered (Reads a) = None
entered (Writes a) = None
entered (Takes a) = None
entered (Frees a) = None
entered (RunsThrough a) = None
