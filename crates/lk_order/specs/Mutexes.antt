-- Which mutexes points lock and let go, and the ways from points into functions.
use Rattle.std.specs.Prelude.{◌≡◌, ℕ, true, Option, Some, None}
use Rattle.std.specs.Option.{option_and_then}
use Rattle.lk_facts.specs.Basis.{Basis}
use Rattle.lk_facts.specs.Doing.{Runs, Starts}
use Rattle.lk_facts.specs.Labels.{target_at}
use Rattle.lk_facts.specs.Program.{live_at, function_at, action_at}
use Rattle.lk_facts.specs.declared.action.Action.{Action}
use Rattle.lk_facts.specs.declared.action.Action.TheVariants as action
use Rattle.lk_facts.specs.declared.way.Way.{Way}

-- the operand that points to the mutex that the action locks, or takes again once a wait
-- is over (POSIX pthread_mutex_lock, pthread_cond_wait)
abbrev pub locked : Action → Option ℕ
locked (action.Value number ty) = None
locked (action.Null ty) = None
locked (action.Func f) = None
locked action.SelfId = None
locked (action.Root r) = None
locked (action.Text r) = None
locked (action.Field a member) = None
locked (action.Index a b into) = None
locked (action.Read a raw) = None
locked (action.Write a b raw) = None
locked (action.SlotRead s) = None
locked (action.SlotWrite s a) = None
locked (action.Unary op a) = None
locked (action.Binary op a b) = None
locked (action.Compute args ty equal) = None
locked (action.Convert a ty) = None
locked (action.Branch a) = None
locked (action.Switch a cases) = None
locked action.Skip = None
locked (action.Call f args) = None
locked (action.PointerCall a args) = None
locked (action.Return a) = None
locked (action.Create f a) = None
locked (action.StoreId a) = None
locked (action.Join a) = None
locked (action.Detach a) = None
locked action.ExitThread = None
locked action.ExitProcess = None
locked (action.Lock a) = Some a
locked (action.Unlock a) = None
locked (action.Release cond mutex) = None
locked (action.Retake a) = Some a
locked (action.Init a) = None
locked (action.Destroy a) = None
locked (action.Signal a) = None
locked (action.Allocate ty count zero root) = None
locked (action.Free a) = None
locked (action.Scan a) = None
locked (action.Fill a place named) = None

-- the operand that points to the mutex that the action unlocks, at the beginning of a wait
-- too (POSIX pthread_mutex_unlock, pthread_cond_wait)
abbrev pub let_go : Action → Option ℕ
let_go (action.Value number ty) = None
let_go (action.Null ty) = None
let_go (action.Func f) = None
let_go action.SelfId = None
let_go (action.Root r) = None
let_go (action.Text r) = None
let_go (action.Field a member) = None
let_go (action.Index a b into) = None
let_go (action.Read a raw) = None
let_go (action.Write a b raw) = None
let_go (action.SlotRead s) = None
let_go (action.SlotWrite s a) = None
let_go (action.Unary op a) = None
let_go (action.Binary op a b) = None
let_go (action.Compute args ty equal) = None
let_go (action.Convert a ty) = None
let_go (action.Branch a) = None
let_go (action.Switch a cases) = None
let_go action.Skip = None
let_go (action.Call f args) = None
let_go (action.PointerCall a args) = None
let_go (action.Return a) = None
let_go (action.Create f a) = None
let_go (action.StoreId a) = None
let_go (action.Join a) = None
let_go (action.Detach a) = None
let_go action.ExitThread = None
let_go action.ExitProcess = None
let_go (action.Lock a) = None
let_go (action.Unlock a) = Some a
let_go (action.Release cond mutex) = Some mutex
let_go (action.Retake a) = None
let_go (action.Init a) = None
let_go (action.Destroy a) = None
let_go (action.Signal a) = None
let_go (action.Allocate ty count zero root) = None
let_go (action.Free a) = None
let_go (action.Scan a) = None
let_go (action.Fill a place named) = None

module _ (basis : Basis) where
  -- the live point p of f does to the mutex that the label x names what the actions with such an operand do
  pub record DoesTo (operand : Action → Option ℕ) (p f x : ℕ) : Type 0 where
    pub live : live_at basis.program p ≡ true
    pub of : function_at basis.program p ≡ Some f
    pub a : ℕ
    pub is : option_and_then operand (action_at basis.program p) ≡ Some a
    pub names : target_at basis.labels a ≡ Some x

  -- the live point p of f locks the mutex that x names
  abbrev pub Locks : (p f x : ℕ) → Type 0
  Locks p f x = DoesTo locked p f x

  -- the live point p of f lets the mutex go that x names
  abbrev pub LetsGo : (p f x : ℕ) → Type 0
  LetsGo p f x = DoesTo let_go p f x

  -- the live point p of f runs the function g, or starts a thread there, and goes into it by the way
  pub data Enters (p f : ℕ) (way : Way) (g : ℕ) : Type 0 where
    run : Runs basis p f way g → Enters p f way g
    start : Starts basis p f way g → Enters p f way g
