-- What calls and creations change is right.
use Rattle.std.proofs.Common.{◌≡◌, ℕ, zero, suc, Bool, true, false, List, [], ◌∷◌, ◌++◌, Option, None, Some, refl, sym, ap, subst, ◌∙◌}
use Rattle.std.proofs.lemmas.Option.{none-some, same_Some}
use Rattle.std.specs.List.{slice_get}
use Rattle.std.specs.Option.{option_map}
use Rattle.std.specs.Prelude.{is_some, map, nat_eq, if◌then◌else◌, pos}
use Rattle.lk_base.specs.declared.kind.Kind.TheVariants as kind
use Rattle.lk_cells.specs.Operands.{operand, all_given, function_in}
use Rattle.lk_cells.specs.declared.state.State.{State}
use Rattle.lk_cells.specs.declared.state.Thread.{Thread}
use Rattle.lk_change.specs.Calls.{call_of, enters}
use Rattle.lk_change.specs.Going.{goes, succeeds}
use Rattle.lk_change.specs.Threads.{begins}
use Rattle.lk_change.specs.declared.change.Call.{Call}
use Rattle.lk_change.specs.declared.change.Change.{Change}
use Rattle.lk_change.specs.declared.change.Change.TheVariants.{Enter}
use Rattle.lk_change.specs.declared.change.Effect.{Effect}
use Rattle.lk_change.specs.declared.change.Effect.TheVariants as effect
use Rattle.lk_facts.specs.EdgeRules.{value, parameter}
use Rattle.lk_facts.specs.Effects.{effect_of, entered}
use Rattle.lk_facts.specs.Labels.{LabelTable}
use Rattle.lk_facts.specs.Program.{entry_of, site_at}
use Rattle.lk_facts.specs.declared.action.Action.{Action}
use Rattle.lk_facts.specs.declared.action.Action.TheVariants as action
use Rattle.lk_facts.specs.declared.edge.Edge.{Edge}
use Rattle.lk_facts.specs.declared.program.Program.{Program}
use Rattle.lk_right.proofs.Callers.{argument_given, effect_is, has_site, enters_at_site, starts_at_site, enters_by_value}
use Rattle.lk_right.proofs.Doing.{Acts, frame_sound, homes_of, goes_right, succeeds_right}
use Rattle.lk_right.proofs.Growing.{right_stays}
use Rattle.lk_right.proofs.Passing.{argument_right, started_right, argument_through}
use Rattle.lk_right.specs.Changes.{IsCallRight, IsEffectRight, IsChangeRight}
use Rattle.lk_right.specs.Contexts.{Home, Contexts, entered_context, homes_in}
use Rattle.lk_right.specs.Right.{IsFunctionRight, IsRight}
use Rattle.lk_right.specs.Sound.{IsCalling, IsFrameSound}
use Rattle.lk_right.specs.Sound.IsCalling.{direct, through}
use Rattle.lk_values.proofs.Reasons.{mapped, chained}
use Rattle.lk_values.specs.declared.value.Value.{Value}
use Rattle.lk_values.specs.declared.value.Value.TheVariants.{Number, Pointer, Function, Null, Thread as Id, Indeterminate}

-- an operand that a function is called through gave a pointer to it
function_there : (o : Option Value) (g : ℕ) → function_in o ≡ Some g → o ≡ Some (Function g)
function_there None g h = absurd (none-some g h)
function_there (Some (Number k n)) g h = absurd (none-some g h)
function_there (Some (Pointer p)) g h = absurd (none-some g h)
function_there (Some (Function f)) g h = ap (λ f. Some (Function f)) (same_Some f g h)
function_there (Some Null) g h = absurd (none-some g h)
function_there (Some (Id t)) g h = absurd (none-some g h)
function_there (Some Indeterminate) g h = absurd (none-some g h)

module _ (program : Program) (labels : LabelTable) (es : List Edge) (contexts : Contexts) (s : State) (t w f : ℕ) (thread : Thread) (cs : List (List ℕ)) (c : List ℕ) (ch : Change) where
  abbrev p : ℕ
  p = thread.frame.point

  abbrev Right : Change → Type 0
  Right = IsChangeRight program labels es contexts t thread f cs c

  abbrev Does : Action → Type 0
  Does act = Acts program labels es contexts s t w f thread cs c act ch

  frame : (act : Action) → Does act → IsFrameSound program labels es contexts.homes f c thread.frame
  frame act acts = frame_sound program labels es contexts s t w f thread cs c act ch acts

  -- the site of a call or creation that is performed
  site : (act : Action) → Does act → is_some (entered (effect_of act)) ≡ true → (i : ℕ) × (site_at program p ≡ Some i)
  site act acts enters = has_site program acts.ok.in_range p act acts.performs.at (frame act acts).live enters

  -- the value is right for the parameter k of the function g, counted from 0, that is entered
  abbrev IsArgument : (g k : ℕ) → List Home → Value → Type 0
  IsArgument g k homes v = IsRight program labels es homes v (parameter program g (suc k)) (entered_context program p g c)

  -- a function is entered with the values of operands: the frame calls it, and each value is right for its parameter
  enters_right : (g : ℕ) (args : List ℕ) → enters program thread g args ≡ Some ch → IsCalling program thread.frame c g (entered_context program p g c) →
      ((k a : ℕ) (v : Value) → slice_get args k ≡ Some a → operand thread a ≡ Some v → IsArgument g k contexts.homes v) → Right ch
  enters_right g args h calling right =
      let values = chained (λ values. option_map Enter (call_of program g values)) (all_given (map (operand thread) args)) ch h in
      let call = mapped Enter (call_of program g values.0) ch values.2 in
      let entry = mapped (λ e. record { function = g; entry = e; args = values.0 }) (entry_of program g) call.0 call.1 in
      let begun : Call = record { function = g; entry = entry.0; args = values.0 } in
      let is : IsCallRight program labels es contexts.homes begun (entered_context program p g c) =
      record { begins = entry.1; args = λ k v at. (let a = argument_given thread args values.0 values.1 k v at in right k a.0 v a.1 a.2) } in
      subst Right (ap Enter entry.2 ∙ call.2) (calling, is)

  -- a call of a function by its name
  pub call_right : (g : ℕ) (args : List ℕ) → Does (action.Call g args) → Right ch
  call_right g args acts =
      let act = action.Call g args in
      let at = acts.performs.at in
      let own = site act acts refl in
      let context = enters_at_site program p g own.0 c g (effect_is program p act at) own.1 in
      enters_right g args acts.does (direct own.0 args at own.1 context)
      (λ k a v is gave. subst (λ d. IsRight program labels es contexts.homes v (parameter program g (suc k)) d) (sym context)
      (argument_right program labels es acts.ok contexts.homes p f acts.performs.stands c g args at own.0 k a own.1 is v ((frame act acts).values a v gave)))

  -- a call of the function that an operand points to
  pub pointer_call_right : (a : ℕ) (args : List ℕ) → Does (action.PointerCall a args) → Right ch
  pointer_call_right a args acts =
      let act = action.PointerCall a args in
      let at = acts.performs.at in
      let callee = chained (λ g. enters program thread g args) (function_in (operand thread a)) ch acts.does in
      let g = callee.0 in
      let gave = function_there (operand thread a) g callee.1 in
      let leads : IsFunctionRight program labels es contexts.homes g (value program a) c = (frame act acts).values a (Function g) gave in
      let context = enters_by_value program p g leads.site c a (effect_is program p act at) leads.used in
      enters_right g args callee.2 (through a leads.site args at gave leads.used context)
      (λ k b v is given. subst (λ d. IsRight program labels es contexts.homes v (parameter program g (suc k)) d) (sym context)
      (argument_through program labels es acts.ok contexts.homes p f acts.performs.stands c a args at g leads.site leads.used leads k b is v ((frame act acts).values b v given)))

  -- what is begun with one value is right in the homes after, where the value is right for the parameter
  begun_right : (g e : ℕ) (v : Value) → entry_of program g ≡ Some e → IsArgument g 0 contexts.homes v →
      IsCallRight program labels es (contexts.homes ++ homes_in program g (entered_context program p g c)) (record { function = g; entry = e; args = v ∷ [] }) (entered_context program p g c)
  begun_right g e v begins right = record { begins = begins; args = one }
    where
      one : (k : ℕ) (x : Value) → slice_get (v ∷ []) k ≡ Some x → IsArgument g k (contexts.homes ++ homes_in program g (entered_context program p g c)) x
      one zero x h =
          subst (λ y. IsArgument g 0 (contexts.homes ++ homes_in program g (entered_context program p g c)) y) (same_Some v x h)
          (right_stays program labels es contexts.homes (homes_in program g (entered_context program p g c)) (parameter program g 1) (entered_context program p g c) v right)
      one (suc k) x h = absurd (none-some x h)

  -- a thread that is created, or for want of means isn't
  pub create_right : (g a : ℕ) → Does (action.Create g a) → Right ch
  create_right g a acts =
      let v = chained (begins program p w g) (operand thread a) ch acts.does in
      by_word (nat_eq w 0) v.0 v.1 v.2
    where
      is_begun : (v : Value) → operand thread a ≡ Some v → (e : Effect) → option_map effect.Begin (call_of program g (v ∷ [])) ≡ Some e →
          IsEffectRight program labels es (homes_of program labels es contexts s t w f thread cs c (action.Create g a) ch acts e) p f c e
      is_begun v gave e h =
          let call = mapped effect.Begin (call_of program g (v ∷ [])) e h in
          let entry = mapped (λ e. record { function = g; entry = e; args = v ∷ [] }) (entry_of program g) call.0 call.1 in
          let act = action.Create g a in
          let at = acts.performs.at in
          let own = site act acts refl in
          let context = starts_at_site program p g own.0 c g (effect_is program p act at) own.1 in
          let right = subst (λ d. IsRight program labels es contexts.homes v (parameter program g 1) d) (sym context)
          (started_right program labels es acts.ok contexts.homes p f acts.performs.stands c g a at own.0 own.1 v ((frame act acts).values a v gave)) in
          subst (λ e. IsEffectRight program labels es (homes_of program labels es contexts s t w f thread cs c act ch acts e) p f c e) (ap effect.Begin entry.2 ∙ call.2)
          (begun_right g entry.0 v entry.1 right)

      by_word : (failed : Bool) (v : Value) → operand thread a ≡ Some v →
          (if failed then goes program p 1 (Some (Number kind.Int (pos 11))) effect.Nothing else succeeds program p (option_map effect.Begin (call_of program g (v ∷ [])))) ≡ Some ch → Right ch
      by_word true v gave h = goes_right program labels es contexts s t w f thread cs c (action.Create g a) ch acts 1 (Some (Number kind.Int (pos 11))) effect.Nothing h tt tt
      by_word false v gave h = succeeds_right program labels es contexts s t w f thread cs c (action.Create g a) ch acts (option_map effect.Begin (call_of program g (v ∷ []))) h (is_begun v gave)
