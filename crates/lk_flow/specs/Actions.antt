-- Which actions join labels. Only the private calls of this crate speak of it.
use Rattle.std.specs.Prelude.{Bool, true, false}
use Rattle.lk_facts.specs.declared.action.Action.{Action}
use Rattle.lk_facts.specs.declared.action.Action.TheVariants as action

-- within one function
abbrev pub is_local : Action → Bool
is_local (action.Value number ty) = false
is_local (action.Null ty) = false
is_local (action.Func g) = true
is_local action.SelfId = false
is_local (action.Root r) = true
is_local (action.Text r) = true
is_local (action.Field a k) = true
is_local (action.Index a b into) = true
is_local (action.Read a raw) = true
is_local (action.Write a b raw) = true
is_local (action.SlotRead s) = true
is_local (action.SlotWrite s a) = true
is_local (action.Unary op a) = false
is_local (action.Binary op a b) = true
is_local (action.Compute args ty equal) = false
is_local (action.Convert a ty) = true
is_local (action.Branch a) = false
is_local (action.Switch a cases) = false
is_local action.Skip = false
is_local (action.Call g args) = false
is_local (action.PointerCall a args) = false
is_local (action.Return a) = false
is_local (action.Create g a) = false
is_local (action.StoreId a) = false
is_local (action.Join a) = false
is_local (action.Detach a) = false
is_local action.ExitThread = false
is_local action.ExitProcess = false
is_local (action.Lock a) = false
is_local (action.Unlock a) = false
is_local (action.Release cond mutex) = false
is_local (action.Retake a) = false
is_local (action.Init a) = false
is_local (action.Destroy a) = false
is_local (action.Signal a) = false
is_local (action.Allocate ty count clear r) = false
is_local (action.Free a) = false
is_local (action.Scan a) = false
is_local (action.Fill a at named) = false

-- into a function or out of it, and from an object that is allocated
abbrev pub is_passing : Action → Bool
is_passing (action.Value number ty) = false
is_passing (action.Null ty) = false
is_passing (action.Func g) = false
is_passing action.SelfId = false
is_passing (action.Root r) = false
is_passing (action.Text r) = false
is_passing (action.Field a k) = false
is_passing (action.Index a b into) = false
is_passing (action.Read a raw) = false
is_passing (action.Write a b raw) = false
is_passing (action.SlotRead s) = false
is_passing (action.SlotWrite s a) = false
is_passing (action.Unary op a) = false
is_passing (action.Binary op a b) = false
is_passing (action.Compute args ty equal) = false
is_passing (action.Convert a ty) = false
is_passing (action.Branch a) = false
is_passing (action.Switch a cases) = false
is_passing action.Skip = false
is_passing (action.Call g args) = true
is_passing (action.PointerCall a args) = true
is_passing (action.Return a) = true
is_passing (action.Create g a) = true
is_passing (action.StoreId a) = false
is_passing (action.Join a) = false
is_passing (action.Detach a) = false
is_passing action.ExitThread = false
is_passing action.ExitProcess = false
is_passing (action.Lock a) = false
is_passing (action.Unlock a) = false
is_passing (action.Release cond mutex) = false
is_passing (action.Retake a) = false
is_passing (action.Init a) = false
is_passing (action.Destroy a) = false
is_passing (action.Signal a) = false
is_passing (action.Allocate ty count clear r) = true
is_passing (action.Free a) = false
is_passing (action.Scan a) = false
is_passing (action.Fill a at named) = false
