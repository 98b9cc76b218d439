-- What points do to mutexes: one that lets a mutex go is an Unlock, or a Release where a wait begins.
use Rattle.std.proofs.Common.{◌≡◌, ℕ, true, Option, None, Some, [], refl, sym, ap, subst, ◌∙◌}
use Rattle.std.proofs.lemmas.Bool.{false≢true}
use Rattle.std.proofs.lemmas.Option.{none-some, same_Some}
use Rattle.std.specs.Option.{option_map, option_map_or, option_and_then}
use Rattle.std.specs.Prelude.{slice_get}
use Rattle.lk_facts.specs.Basis.{Basis}
use Rattle.lk_facts.specs.Doing.{Runs}
use Rattle.lk_facts.specs.Effects.{effect_of}
use Rattle.lk_facts.specs.Held.{RunsNone}
use Rattle.lk_facts.specs.Live.{IsReached}
use Rattle.lk_facts.specs.Lowered.{IsLowered}
use Rattle.lk_facts.specs.Program.{action_at, effect_at, live_at}
use Rattle.lk_facts.specs.Reach.{IsNext}
use Rattle.lk_facts.specs.declared.action.Action.{Action}
use Rattle.lk_facts.specs.declared.action.Action.TheVariants as does
use Rattle.lk_facts.specs.declared.effect.Effect.{Effect}
use Rattle.lk_facts.specs.declared.effect.Effect.TheVariants as effect
use Rattle.lk_facts.specs.declared.point.Point.{Point}
use Rattle.lk_facts.specs.declared.program.Program.{Program}
use Rattle.lk_facts.specs.declared.way.Way.{Way}
use Rattle.lk_order.specs.Mutexes.{LetsGo, let_go}
use Rattle.lk_sets.specs.Ids.{has_id}
use Rattle.lk_trails.specs.Trails.{IsReturn}

-- an action that lets the mutex go to which the operand points
pub data IsLettingGo (a : ℕ) : Action → Type 0 where
  unlock : IsLettingGo a (does.Unlock a)
  release : (cond : ℕ) → IsLettingGo a (does.Release cond a)

pub lets_go : (action : Action) (a : ℕ) → let_go action ≡ Some a → IsLettingGo a action
lets_go (does.Value number ty) a h = absurd (none-some a h)
lets_go (does.Null ty) a h = absurd (none-some a h)
lets_go (does.Func g) a h = absurd (none-some a h)
lets_go does.SelfId a h = absurd (none-some a h)
lets_go (does.Root r) a h = absurd (none-some a h)
lets_go (does.Text r) a h = absurd (none-some a h)
lets_go (does.Field b k) a h = absurd (none-some a h)
lets_go (does.Index b d into) a h = absurd (none-some a h)
lets_go (does.Read b raw) a h = absurd (none-some a h)
lets_go (does.Write b d raw) a h = absurd (none-some a h)
lets_go (does.SlotRead slot) a h = absurd (none-some a h)
lets_go (does.SlotWrite slot b) a h = absurd (none-some a h)
lets_go (does.Unary op b) a h = absurd (none-some a h)
lets_go (does.Binary op b d) a h = absurd (none-some a h)
lets_go (does.Compute args ty equal) a h = absurd (none-some a h)
lets_go (does.Convert b ty) a h = absurd (none-some a h)
lets_go (does.Branch b) a h = absurd (none-some a h)
lets_go (does.Switch b cases) a h = absurd (none-some a h)
lets_go does.Skip a h = absurd (none-some a h)
lets_go (does.Call g args) a h = absurd (none-some a h)
lets_go (does.PointerCall b args) a h = absurd (none-some a h)
lets_go (does.Return b) a h = absurd (none-some a h)
lets_go (does.Create g b) a h = absurd (none-some a h)
lets_go (does.StoreId b) a h = absurd (none-some a h)
lets_go (does.Join b) a h = absurd (none-some a h)
lets_go (does.Detach b) a h = absurd (none-some a h)
lets_go does.ExitThread a h = absurd (none-some a h)
lets_go does.ExitProcess a h = absurd (none-some a h)
lets_go (does.Lock b) a h = absurd (none-some a h)
lets_go (does.Unlock b) a h = subst (λ x. IsLettingGo a (does.Unlock x)) (sym (same_Some b a h)) unlock
lets_go (does.Release cond b) a h = subst (λ x. IsLettingGo a (does.Release cond x)) (sym (same_Some b a h)) (release cond)
lets_go (does.Retake b) a h = absurd (none-some a h)
lets_go (does.Init b) a h = absurd (none-some a h)
lets_go (does.Destroy b) a h = absurd (none-some a h)
lets_go (does.Signal b) a h = absurd (none-some a h)
lets_go (does.Allocate ty count zero r) a h = absurd (none-some a h)
lets_go (does.Free b) a h = absurd (none-some a h)
lets_go (does.Scan b) a h = absurd (none-some a h)
lets_go (does.Fill b place named) a h = absurd (none-some a h)

-- the action of a point, by an operand of it or by its effect
pub action_with : (program : Program) (operand : Action → Option ℕ) (p a : ℕ) → option_and_then operand (action_at program p) ≡ Some a →
    (action : Action) × (action_at program p ≡ Some action) × (operand action ≡ Some a)
action_with program operand p a h = by (action_at program p) refl h
  where
    by : (found : Option Action) → action_at program p ≡ found → option_and_then operand found ≡ Some a → (action : Action) × (action_at program p ≡ Some action) × (operand action ≡ Some a)
    by None is h = absurd (none-some a h)
    by (Some action) is h = (action, is, h)

pub effect_with : (program : Program) (p : ℕ) (action : Action) → action_at program p ≡ Some action → effect_at program p ≡ Some (effect_of action)
effect_with program p action h = by (slice_get program.points p) h
  where
    by : (o : Option Point) → option_map (λ (point : Point). point.action) o ≡ Some action → option_map (λ (point : Point). effect_of point.action) o ≡ Some (effect_of action)
    by None h = absurd (none-some action h)
    by (Some point) h = ap (λ a. Some (effect_of a)) (same_Some point.action action h)

module _ (basis : Basis) where
  -- a point that lets a mutex go runs no function
  pub goes_runs_none : {p f y : ℕ} → LetsGo basis p f y → RunsNone basis p
  goes_runs_none {p} goes e g way runs = by (lets_go found.0 goes.a found.2) found.1
    where
      found : (action : Action) × (action_at basis.program p ≡ Some action) × (let_go action ≡ Some goes.a)
      found = action_with basis.program let_go p goes.a goes.is

      neither : {e g : ℕ} {way : Way} → Runs basis p e way g → (now : Effect) → effect_at basis.program p ≡ Some now → ((g : ℕ) → Some now ≡ Some (effect.Runs g) → ⊥) →
          ((a : ℕ) → Some now ≡ Some (effect.RunsThrough a) → ⊥) → ⊥
      neither (Runs.call g i called site) now is first second = first g (sym is ∙ called.is)
      neither (Runs.pointer g a i called may) now is first second = second a (sym is ∙ called.is)

      frees_runs : (a g : ℕ) → Some (effect.Frees a) ≡ Some (effect.Runs g) → ⊥
      frees_runs a g h = cc

      frees_through : (a b : ℕ) → Some (effect.Frees a) ≡ Some (effect.RunsThrough b) → ⊥
      frees_through a b h = cc

      none_runs : (g : ℕ) → Some effect.Nothing ≡ Some (effect.Runs g) → ⊥
      none_runs g h = cc

      none_through : (b : ℕ) → Some effect.Nothing ≡ Some (effect.RunsThrough b) → ⊥
      none_through b h = cc

      by : {action : Action} → IsLettingGo goes.a action → action_at basis.program p ≡ Some action → ⊥
      by unlock at = neither runs (effect.Frees goes.a) (effect_with basis.program p (does.Unlock goes.a) at) (frees_runs goes.a) (frees_through goes.a)
      by (release cond) at = neither runs effect.Nothing (effect_with basis.program p (does.Release cond goes.a) at) none_runs none_through

  -- a point that runs a function lets no mutex go
  pub runs_goes_none : {p f g : ℕ} {way : Way} → Runs basis p f way g → (e y : ℕ) → LetsGo basis p e y → ⊥
  runs_goes_none {p} {f} {g} {way} runs e y goes = goes_runs_none goes f g way runs

  -- neither does a return, which runs none either
  pub return_goes_none : IsLowered basis.program → {p : ℕ} → IsReturn basis p → (e y : ℕ) → LetsGo basis p e y → ⊥
  return_goes_none lowered {p} is e y goes = by (lets_go found.0 goes.a found.2) found.1
    where
      found : (action : Action) × (action_at basis.program p ≡ Some action) × (let_go action ≡ Some goes.a)
      found = action_with basis.program let_go p goes.a goes.is

      idle_frees : (a : ℕ) → Some effect.Nothing ≡ Some (effect.Frees a) → ⊥
      idle_frees a h = cc

      skip_retakes : (a : ℕ) → Some does.Skip ≡ Some (does.Retake a) → ⊥
      skip_retakes a h = cc

      by : {action : Action} → IsLettingGo goes.a action → action_at basis.program p ≡ Some action → ⊥
      by unlock at = idle_frees goes.a (sym is.idle ∙ effect_with basis.program p (does.Unlock goes.a) at)
      by (release cond) at = skip_retakes goes.a (sym (lowered.exits is.g is.exit is.exits).skips ∙ lowered.waits p is.exit cond goes.a at is.next)

  pub return_runs_none : {p : ℕ} → IsReturn basis p → RunsNone basis p
  return_runs_none is f g way (Runs.call e i called site) = not_both e (sym is.idle ∙ called.is)
    where
      not_both : (g : ℕ) → Some effect.Nothing ≡ Some (effect.Runs g) → ⊥
      not_both g h = cc
  return_runs_none is f g way (Runs.pointer e a i called may) = not_both a (sym is.idle ∙ called.is)
    where
      not_both : (a : ℕ) → Some effect.Nothing ≡ Some (effect.RunsThrough a) → ⊥
      not_both a h = cc

-- what comes next after a live point is live
pub next_live : (program : Program) → IsLowered program → (p q : ℕ) → live_at program p ≡ true → IsNext program p q → live_at program q ≡ true
next_live program lowered p q live next = by (slice_get program.points p) refl next
  where
    by : (found : Option Point) → slice_get program.points p ≡ found → has_id (option_map_or (λ (point : Point). point.next) found []) q ≡ true → live_at program q ≡ true
    by None is h = absurd (false≢true h)
    by (Some point) is h = (lowered.live q).1 (IsReached.next p point ((lowered.live p).0 live) is h)
