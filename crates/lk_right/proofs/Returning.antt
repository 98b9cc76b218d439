-- What returns change is right.
use Rattle.std.proofs.Common.{◌≡◌, ℕ, Bool, true, false, List, Option, None, Some, refl, subst}
use Rattle.std.proofs.lemmas.Option.{same_Some}
use Rattle.std.specs.Option.{option_map_or}
use Rattle.std.specs.Prelude.{nat_eq, if◌then◌else◌}
use Rattle.lk_cells.specs.Operands.{operand}
use Rattle.lk_cells.specs.declared.state.Frame.{Frame}
use Rattle.lk_cells.specs.declared.state.State.{State}
use Rattle.lk_cells.specs.declared.state.Thread.{Thread}
use Rattle.lk_change.specs.Calls.{caller_of, ends_first, returns, returns_to}
use Rattle.lk_change.specs.Going.{successor}
use Rattle.lk_change.specs.declared.change.Change.{Change}
use Rattle.lk_change.specs.declared.change.Change.TheVariants.{Leave, EndThread, EndProcess}
use Rattle.lk_facts.specs.EdgeRules.{result}
use Rattle.lk_facts.specs.Labels.{LabelTable}
use Rattle.lk_facts.specs.declared.action.Action.{Action}
use Rattle.lk_facts.specs.declared.action.Action.TheVariants as action
use Rattle.lk_facts.specs.declared.edge.Edge.{Edge}
use Rattle.lk_facts.specs.declared.program.Program.{Program}
use Rattle.lk_right.proofs.Callers.{caller_sound}
use Rattle.lk_right.proofs.Doing.{Acts, live_successor, operand_right}
use Rattle.lk_right.proofs.Passing.{result_right, result_through, returned_right}
use Rattle.lk_right.specs.Changes.{IsChangeRight, IsGivenRight, IsReturnRight}
use Rattle.lk_right.specs.Contexts.{Contexts}
use Rattle.lk_right.specs.Laws.{IsAnalysed}
use Rattle.lk_right.specs.Right.{IsRight}
use Rattle.lk_right.specs.Sound.{IsCalling, IsFrameSound}
use Rattle.lk_right.specs.Sound.IsCalling.{direct, through}
use Rattle.lk_values.proofs.Reasons.{mapped, chained}
use Rattle.lk_values.specs.declared.value.Value.{Value}
use Rattle.lk_values.specs.declared.value.Value.TheVariants.{Function}

module _ (program : Program) (labels : LabelTable) (es : List Edge) (contexts : Contexts) (s : State) (t w f : ℕ) (thread : Thread) (cs : List (List ℕ)) (c : List ℕ) (ch : Change) where
  abbrev Right : Change → Type 0
  Right = IsChangeRight program labels es contexts t thread f cs c

  abbrev Does : Action → Type 0
  Does act = Acts program labels es contexts s t w f thread cs c act ch

  -- a result of the function is right in the context
  abbrev IsResult : Value → List ℕ → Type 0
  IsResult v d = IsRight program labels es contexts.homes v (result program f) d

  -- the value is right for the call, in the frame of the caller
  abbrev IsGivenTo : (caller : Frame) → Option Value → Type 0
  IsGivenTo caller v =
      (g : ℕ) (d : List ℕ) → IsFrameSound program labels es contexts.homes g d caller → IsCalling program caller d f c → IsGivenRight program labels es contexts.homes v caller.point d

  -- a result of the function is so
  given_to : IsAnalysed program labels es → (v : Value) → IsResult v c → (caller : Frame) → IsGivenTo caller (Some v)
  given_to ok v given caller g d frame (direct i args calls site is) =
      result_right program labels es ok contexts.homes caller.point g frame.stands d f args calls i site v (subst (IsResult v) is given)
  given_to ok v given caller g d frame (through a i args calls gave site is) =
      result_through program labels es ok contexts.homes caller.point g frame.stands d a args calls f i site (frame.values a (Function f) gave) v (subst (IsResult v) is given)

  -- a thread goes back to its caller, or ends
  leaves_right : (act : Action) → Does act → (v : Option Value) → ((caller : Frame) → IsGivenTo caller v) → returns program t thread v ≡ Some ch → Right ch
  leaves_right act acts v right h = by (caller_of thread) refl h
    where
      ends : (first : Bool) → (if first then EndProcess else EndThread) ≡ ch → Right ch
      ends true is = subst Right is tt
      ends false is = subst Right is tt

      by : (o : Option Frame) → caller_of thread ≡ o → option_map_or (returns_to program v) o (ends_first t) ≡ Some ch → Right ch
      by None is h = ends (nat_eq t 0) (same_Some _ ch h)
      by (Some caller) is h =
          let next = mapped (Leave v) (successor program caller.point 0) ch h in
          let below = caller_sound program labels es contexts s t w f thread cs c act ch acts caller is in
          let returned : IsReturnRight program labels es contexts.homes cs thread v next.0 = record {
            caller = caller;
            calls = is;
            function = below.function;
            context = below.context;
            in_context = below.in_context;
            stands = below.sound.stands;
            goes = live_successor program labels es acts.ok caller.point below.function 0 next.0 below.sound.stands below.sound.live next.1;
            given = right caller below.function below.context below.sound below.called;
          } in
          subst Right next.2 returned

  -- a return, with a value or without
  pub return_right : (a : Option ℕ) → Does (action.Return a) → Right ch
  return_right None acts = leaves_right (action.Return None) acts None (λ caller g d frame calling. tt) acts.does
  return_right (Some a) acts =
      let act = action.Return (Some a) in
      let v = chained (λ v. returns program t thread (Some v)) (operand thread a) ch acts.does in
      let given = operand_right program labels es contexts s t w f thread cs c act ch acts a v.0 v.1 in
      leaves_right act acts (Some v.0) (given_to acts.ok v.0 (returned_right program labels es acts.ok contexts.homes thread.frame.point f acts.performs.stands c a acts.performs.at v.0 given)) v.2
