-- What a point does to mutexes is one thing, in one function.
use Rattle.std.proofs.Common.{◌≡◌, ◌<◌, ◌⊎◌, ℕ, true, false, length, Option, Some, None, refl, sym, ap, ◌∙◌, ⊎_elim, inl, inr, arith}
use Rattle.std.specs.List.{slice_get}
use Rattle.std.specs.Option.{option_map, option_and_then}
use Rattle.std.proofs.lemmas.Bool.{both_ways}
use Rattle.std.proofs.lemmas.Option.{none-some, same_Some, slice_get_cases}
use Rattle.lk_facts.specs.Basis.{Basis}
use Rattle.lk_facts.specs.Doing.{Runs}
use Rattle.lk_facts.specs.Doing.Runs.{call, pointer}
use Rattle.lk_facts.specs.Effects.{effect_of}
use Rattle.lk_facts.specs.Labels.{target_at}
use Rattle.lk_facts.specs.Program.{action_at, effect_at, live_at, function_at}
use Rattle.lk_facts.specs.declared.action.Action.{Action}
use Rattle.lk_facts.specs.declared.action.Action.TheVariants as action
use Rattle.lk_facts.specs.declared.effect.Effect.{Effect}
use Rattle.lk_facts.specs.declared.effect.Effect.TheVariants as effect
use Rattle.lk_facts.specs.declared.point.Point.{Point}
use Rattle.lk_facts.specs.declared.program.Program.{Program}
use Rattle.lk_facts.specs.declared.way.Way.{Way}
use Rattle.lk_order.specs.Acts.{IsDoneTo}
use Rattle.lk_order.specs.Mutexes.{DoesTo, Locks, LetsGo, locked, let_go}

-- a point is of a function
function_there : (program : Program) (p : ℕ) → p < length program.points → (f : ℕ) × (function_at program p ≡ Some f)
function_there program p within =
    elim (slice_get_cases program.points p).1 [
      | inl found ↦ (found.0.function, ap (option_map (λ (point : Point). point.function)) found.2)
      | inr past ↦ absurd (omega arith)
    ]

module _ (basis : Basis) (operand : Action → Option ℕ) (p : ℕ) where
  -- what it is done to
  done_same : (a : ℕ) → option_and_then operand (action_at basis.program p) ≡ Some a → (f x : ℕ) → DoesTo basis operand p f x → target_at basis.labels a ≡ Some x
  done_same a is f x does =
      let same : a ≡ does.a = cc (does.is) in
      cc (does.names)

  -- a live point with an operand does it to the mutex to which that points
  pub done : (a : ℕ) (found : Option ℕ) → p < length basis.program.points → live_at basis.program p ≡ true → option_and_then operand (action_at basis.program p) ≡ Some a → found ≡ target_at basis.labels a → IsDoneTo basis operand p found
  done a None within live is at = λ x has. let same = done_same a is has.0 x has.1 in cc
  done a (Some x) within live is at = record {
    holds =
        let of = function_there basis.program p within in
        (of.0, record { live = live; of = of.1; a = a; is = is; names = sym at });
    only = λ y has. let same = done_same a is has.0 y has.1 in cc;
  }

  -- others do it to none
  pub done_none : option_and_then operand (action_at basis.program p) ≡ None → IsDoneTo basis operand p None
  done_none none x has = cc (has.1.is)

  pub done_dead : live_at basis.program p ≡ false → IsDoneTo basis operand p None
  done_dead dead x has = both_ways (live_at basis.program p) dead has.1.live

-- what has the operand of a locked mutex runs no function
locked_effect : (act : Action) (a : ℕ) → locked act ≡ Some a → (effect_of act ≡ effect.Takes a) ⊎ (effect_of act ≡ effect.Nothing)
locked_effect (action.Value n ty) a is = absurd (none-some a is)
locked_effect (action.Null ty) a is = absurd (none-some a is)
locked_effect (action.Func f) a is = absurd (none-some a is)
locked_effect action.SelfId a is = absurd (none-some a is)
locked_effect (action.Root r) a is = absurd (none-some a is)
locked_effect (action.Text r) a is = absurd (none-some a is)
locked_effect (action.Field b m) a is = absurd (none-some a is)
locked_effect (action.Index b d into) a is = absurd (none-some a is)
locked_effect (action.Read b raw) a is = absurd (none-some a is)
locked_effect (action.Write b d raw) a is = absurd (none-some a is)
locked_effect (action.SlotRead s) a is = absurd (none-some a is)
locked_effect (action.SlotWrite s b) a is = absurd (none-some a is)
locked_effect (action.Unary op b) a is = absurd (none-some a is)
locked_effect (action.Binary op b d) a is = absurd (none-some a is)
locked_effect (action.Compute args ty equal) a is = absurd (none-some a is)
locked_effect (action.Convert b ty) a is = absurd (none-some a is)
locked_effect (action.Branch b) a is = absurd (none-some a is)
locked_effect (action.Switch b cases) a is = absurd (none-some a is)
locked_effect action.Skip a is = absurd (none-some a is)
locked_effect (action.Call f args) a is = absurd (none-some a is)
locked_effect (action.PointerCall b args) a is = absurd (none-some a is)
locked_effect (action.Return b) a is = absurd (none-some a is)
locked_effect (action.Create f b) a is = absurd (none-some a is)
locked_effect (action.StoreId b) a is = absurd (none-some a is)
locked_effect (action.Join b) a is = absurd (none-some a is)
locked_effect (action.Detach b) a is = absurd (none-some a is)
locked_effect action.ExitThread a is = absurd (none-some a is)
locked_effect action.ExitProcess a is = absurd (none-some a is)
locked_effect (action.Lock b) a is = inl (ap effect.Takes (same_Some _ _ is))
locked_effect (action.Unlock b) a is = absurd (none-some a is)
locked_effect (action.Release c m) a is = absurd (none-some a is)
locked_effect (action.Retake b) a is = inr refl
locked_effect (action.Init b) a is = absurd (none-some a is)
locked_effect (action.Destroy b) a is = absurd (none-some a is)
locked_effect (action.Signal b) a is = absurd (none-some a is)
locked_effect (action.Allocate ty count zero root) a is = absurd (none-some a is)
locked_effect (action.Free b) a is = absurd (none-some a is)
locked_effect (action.Scan b) a is = absurd (none-some a is)
locked_effect (action.Fill b place named) a is = absurd (none-some a is)

-- an action and an effect of one point
module _ (program : Program) (p : ℕ) where
  acted_effect : (found : Option Point) → (a : ℕ) (e : Effect) → option_and_then locked (option_map (λ (point : Point). point.action) found) ≡ Some a →
      option_map (λ (point : Point). effect_of point.action) found ≡ Some e → (e ≡ effect.Takes a) ⊎ (e ≡ effect.Nothing)
  acted_effect None a e acts does = absurd (none-some a acts)
  acted_effect (Some point) a e acts does = ⊎_elim (λ takes. inl (sym (same_Some _ _ does) ∙ takes)) (λ idle. inr (sym (same_Some _ _ does) ∙ idle)) (locked_effect point.action a acts)

  pub locked_is : (a : ℕ) (e : Effect) → option_and_then locked (action_at program p) ≡ Some a → effect_at program p ≡ Some e → (e ≡ effect.Takes a) ⊎ (e ≡ effect.Nothing)
  locked_is a e acts does = acted_effect (slice_get program.points p) a e acts does

module _ (basis : Basis) (p : ℕ) where
  -- a point that locks a mutex runs no function
  pub locks_no_run : {f x h g : ℕ} {way : Way} → Locks basis p f x → Runs basis p h way g → ⊥
  locks_no_run locks (call g i does at) =
      ⊎_elim (λ takes. absurd (cc (takes))) (λ idle. absurd (cc (idle))) (locked_is basis.program p locks.a (effect.Runs g) locks.is does.is)
  locks_no_run locks (pointer g b i does may) =
      ⊎_elim (λ takes. absurd (cc (takes))) (λ idle. absurd (cc (idle))) (locked_is basis.program p locks.a (effect.RunsThrough b) locks.is does.is)

-- what has the operand of a mutex that is let go runs no function
let_go_effect : (act : Action) (a : ℕ) → let_go act ≡ Some a → (effect_of act ≡ effect.Frees a) ⊎ (effect_of act ≡ effect.Nothing)
let_go_effect (action.Value n ty) a is = absurd (none-some a is)
let_go_effect (action.Null ty) a is = absurd (none-some a is)
let_go_effect (action.Func f) a is = absurd (none-some a is)
let_go_effect action.SelfId a is = absurd (none-some a is)
let_go_effect (action.Root r) a is = absurd (none-some a is)
let_go_effect (action.Text r) a is = absurd (none-some a is)
let_go_effect (action.Field b m) a is = absurd (none-some a is)
let_go_effect (action.Index b d into) a is = absurd (none-some a is)
let_go_effect (action.Read b raw) a is = absurd (none-some a is)
let_go_effect (action.Write b d raw) a is = absurd (none-some a is)
let_go_effect (action.SlotRead s) a is = absurd (none-some a is)
let_go_effect (action.SlotWrite s b) a is = absurd (none-some a is)
let_go_effect (action.Unary op b) a is = absurd (none-some a is)
let_go_effect (action.Binary op b d) a is = absurd (none-some a is)
let_go_effect (action.Compute args ty equal) a is = absurd (none-some a is)
let_go_effect (action.Convert b ty) a is = absurd (none-some a is)
let_go_effect (action.Branch b) a is = absurd (none-some a is)
let_go_effect (action.Switch b cases) a is = absurd (none-some a is)
let_go_effect action.Skip a is = absurd (none-some a is)
let_go_effect (action.Call f args) a is = absurd (none-some a is)
let_go_effect (action.PointerCall b args) a is = absurd (none-some a is)
let_go_effect (action.Return b) a is = absurd (none-some a is)
let_go_effect (action.Create f b) a is = absurd (none-some a is)
let_go_effect (action.StoreId b) a is = absurd (none-some a is)
let_go_effect (action.Join b) a is = absurd (none-some a is)
let_go_effect (action.Detach b) a is = absurd (none-some a is)
let_go_effect action.ExitThread a is = absurd (none-some a is)
let_go_effect action.ExitProcess a is = absurd (none-some a is)
let_go_effect (action.Lock b) a is = absurd (none-some a is)
let_go_effect (action.Unlock b) a is = inl (ap effect.Frees (same_Some _ _ is))
let_go_effect (action.Release c m) a is = inr refl
let_go_effect (action.Retake b) a is = absurd (none-some a is)
let_go_effect (action.Init b) a is = absurd (none-some a is)
let_go_effect (action.Destroy b) a is = absurd (none-some a is)
let_go_effect (action.Signal b) a is = absurd (none-some a is)
let_go_effect (action.Allocate ty count zero root) a is = absurd (none-some a is)
let_go_effect (action.Free b) a is = absurd (none-some a is)
let_go_effect (action.Scan b) a is = absurd (none-some a is)
let_go_effect (action.Fill b place named) a is = absurd (none-some a is)

module _ (program : Program) (p : ℕ) where
  gone_effect : (found : Option Point) → (a : ℕ) (e : Effect) → option_and_then let_go (option_map (λ (point : Point). point.action) found) ≡ Some a →
      option_map (λ (point : Point). effect_of point.action) found ≡ Some e → (e ≡ effect.Frees a) ⊎ (e ≡ effect.Nothing)
  gone_effect None a e acts does = absurd (none-some a acts)
  gone_effect (Some point) a e acts does = ⊎_elim (λ frees. inl (sym (same_Some _ _ does) ∙ frees)) (λ idle. inr (sym (same_Some _ _ does) ∙ idle)) (let_go_effect point.action a acts)

  pub let_go_is : (a : ℕ) (e : Effect) → option_and_then let_go (action_at program p) ≡ Some a → effect_at program p ≡ Some e → (e ≡ effect.Frees a) ⊎ (e ≡ effect.Nothing)
  let_go_is a e acts does = gone_effect (slice_get program.points p) a e acts does

module _ (basis : Basis) (p : ℕ) where
  -- a point that lets a mutex go runs no function
  pub lets_go_no_run : {f x h g : ℕ} {way : Way} → LetsGo basis p f x → Runs basis p h way g → ⊥
  lets_go_no_run lets (call g i does at) =
      ⊎_elim (λ frees. absurd (cc (frees))) (λ idle. absurd (cc (idle))) (let_go_is basis.program p lets.a (effect.Runs g) lets.is does.is)
  lets_go_no_run lets (pointer g b i does may) =
      ⊎_elim (λ frees. absurd (cc (frees))) (λ idle. absurd (cc (idle))) (let_go_is basis.program p lets.a (effect.RunsThrough b) lets.is does.is)
