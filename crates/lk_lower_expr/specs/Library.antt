-- The steps of calls: of functions of the program, of the library (C99 7, POSIX pthread.h), and of functions
-- that the sources don't define.
use Rattle.std.specs.Prelude.{ℕ, Bool, true, false, List, [], ◌∷◌, length, Option, None, Some, nat_eq, if◌then◌else◌, suc}
use Rattle.lk_facts.specs.declared.action.Action.{Action}
use Rattle.lk_facts.specs.declared.action.Action.TheVariants as does
use Rattle.lk_lower_expr.specs.Names.{Names, Node}
use Rattle.lk_lower_expr.specs.Parts as parts
use Rattle.lk_lower_expr.specs.Parts.{Part, goes, step, first_of, in_turn, values}
use Rattle.lk_lower_expr.specs.declared.step.Step.{Step}
use Rattle.lk_types.specs.Predeclared.{kind_id}
use Rattle.lk_base.specs.declared.kind.Kind.TheVariants.{Char}
use Rattle.lk_base.specs.declared.spot.Spot.{Spot}
use Rattle.lk_types.specs.declared.c_type.CType.{CType}
use Rattle.lk_types.specs.declared.c_type.CType.TheVariants.{Void, Int, ThreadId, Mutex, Cond, Pointer, Array, Struct, Function, Opaque}

-- what is called
pub data Called : Type 0 where
  by_name : (entity : ℕ) → Called
  by_pointer : Part → Called

-- `char *`
abbrev pub is_text : CType → Bool
is_text Void = false
is_text (Int k) = false
is_text ThreadId = false
is_text Mutex = false
is_text Cond = false
is_text (Pointer t) = nat_eq t (kind_id Char)
is_text (Array t n) = false
is_text (Struct s) = false
is_text (Function result params dots) = false
is_text (Opaque n) = false

-- a step after which control ends
abbrev pub last : Action → Spot → Step
last does spot = record { does = does; gives = None; next = []; spot = spot }

module _ (names : Names) where
  abbrev at : ℕ → ℕ → ℕ
  at = names.at

  -- one step after the operands
  abbrev does_one : Node → List Part → Action → Part
  does_one node operands does = parts.then_one names node operands does (parts.value_of names node.type)

  -- the name of a function has no steps, a pointer to one is computed before the arguments (C99 6.5.2.2)
  abbrev pub call_part : Node → Called → List Part → Part
  call_part node (by_name entity) args = does_one node args (does.Call (names.function entity) (values args))
  call_part node (by_pointer a) args = does_one node (a ∷ args) (does.PointerCall a.value (values args))

  -- a call that touches nothing
  abbrev touches_nothing : Node → List Part → Action
  touches_nothing node args = does.Compute (values args) (names.type node.type) false

  -- a function that `--externs` names: where a source of the program defines it that one is
  -- called, else it touches nothing
  abbrev pub extern_action : Bool → Node → ℕ → List Part → Action
  extern_action true node entity args = does.Call (names.function entity) (values args)
  extern_action false node entity args = touches_nothing node args

  abbrev pub extern_part : Node → ℕ → List Part → Part
  extern_part node entity args = does_one node args (extern_action (names.is_defined entity) node entity args)

  -- the steps of a call that is one action on the operand `a`
  abbrev pub on_one : Node → (ℕ → Action) → Part → Part
  on_one node does a = does_one node (a ∷ []) (does a.value)

  -- a step of a call after which control ends
  abbrev ends : Node → List Part → Action → Part
  ends node operands does = parts.computes names node operands 1 (λ on. last does node.spot ∷ [])

  -- `pthread_create`: the thread, and then the store of its id unless there is none
  abbrev pub create_part : Node → Part → ℕ → Part → Part
  create_part node id entity argument = parts.computes names node (id ∷ argument ∷ []) 2 (λ on.
      record {
        does = does.Create (names.function entity) argument.value;
        gives = parts.value_of names node.type;
        next = at node.ordinal 1 ∷ on ∷ [];
        spot = node.spot;
      } ∷
      step (does.StoreId id.value) None id.node.spot on ∷ [])

  -- `pthread_cond_wait`: the mutex is released and then taken again
  abbrev pub wait_part : Node → Part → Part → Part
  wait_part node cond mutex = parts.computes names node (cond ∷ mutex ∷ []) 2 (λ on.
      step (does.Release cond.value mutex.value) (parts.value_of names node.type) node.spot
      (at node.ordinal 1) ∷
      step (does.Retake mutex.value) None node.spot on ∷ [])

  abbrev pub count_of : Option Part → List Part
  count_of None = []
  count_of (Some n) = n ∷ []

  abbrev value_of_count : Option Part → Option ℕ
  value_of_count None = None
  value_of_count (Some n) = Some n.value

  -- `malloc` and `calloc`: only the count is computed
  abbrev pub allocate_part : Node → ℕ → Option Part → Bool → Part
  allocate_part node t count zeroed =
      does_one node (count_of count)
      (does.Allocate (names.type t) (value_of_count count) zeroed (names.heap node.ordinal))

  -- a read of the text to which the operand points; it stands where the operand does
  abbrev pub scan : Part → Option ℕ → ℕ → Step
  scan a gives on = step (does.Scan a.value) gives a.node.spot on

  abbrev pub scan_part : Node → Part → Part
  scan_part node a =
      parts.computes names node (a ∷ []) 1 (λ on. scan a (parts.value_of names node.type) on ∷ [])

  -- those operands of `printf` that are read as texts
  abbrev pub texts_of : List Part → List Part
  texts_of [] = []
  texts_of (a ∷ others) = if is_text (names.form a.node.type) then a ∷ texts_of others else texts_of others

  -- where control goes on after the step `k - 1`
  abbrev pub on_to : Node → ℕ → List Part → ℕ → ℕ
  on_to node k [] on = on
  on_to node k (a ∷ others) on = at node.ordinal k

  -- a read of each of these texts, the first of them the step `k`
  abbrev pub scans : Node → ℕ → List Part → ℕ → List Step
  scans node k [] on = []
  scans node k (a ∷ others) on = scan a None (on_to node (suc k) others on) ∷ scans node (suc k) others on

  -- `printf`: the format is read, and then each later argument of type `char *` (C99 7.19.6.1)
  abbrev pub print_part : Node → Part → List Part → Part
  print_part node format args =
      parts.computes names node (format ∷ args) (suc (length (texts_of args))) (λ on.
      scan format (parts.value_of names node.type) (on_to node 1 (texts_of args) on) ∷
      scans node 1 (texts_of args) on)

  -- a call of the library that touches nothing
  abbrev pub compute_part : Node → List Part → Part
  compute_part node args = does_one node args (touches_nothing node args)

  abbrev pub equal_part : Node → Part → Part → Part
  equal_part node a b =
      does_one node (a ∷ b ∷ []) (does.Compute (a.value ∷ b.value ∷ []) (names.type node.type) true)

  abbrev pub exit_thread_part : Node → Part → Part
  exit_thread_part node a = ends node (a ∷ []) does.ExitThread

  abbrev pub exit_part : Node → Option Part → Part
  exit_part node status = ends node (count_of status) does.ExitProcess
