-- What is called and from where: the values of arguments, sites and contexts that are entered, and the frame that called another.
use Rattle.std.proofs.Common.{◌≡◌, ◌<◌, ◌-◌, ℕ, zero, suc, true, false, List, [], ◌∷◌, ◌++◌, length, Option, None, Some, refl, sym, ap, ◌∙◌, arith}
use Rattle.std.proofs.lemmas.Option.{none-some, same_Some, slice_get_within}
use Rattle.std.specs.List.{slice_get}
use Rattle.std.specs.Option.{option_map, option_map_or, option_and_then}
use Rattle.std.specs.Prelude.{◌&&◌, is_some, map}
use Rattle.lk_birth.specs.Births.{listed}
use Rattle.lk_cells.specs.Operands.{operand, all_given}
use Rattle.lk_cells.specs.declared.state.Frame.{Frame}
use Rattle.lk_cells.specs.declared.state.State.{State}
use Rattle.lk_cells.specs.declared.state.Thread.{Thread}
use Rattle.lk_change.specs.Calls.{caller_of}
use Rattle.lk_change.specs.declared.change.Change.{Change}
use Rattle.lk_facts.proofs.Sets.{All-got}
use Rattle.lk_facts.specs.Effects.{effect_of, entered}
use Rattle.lk_facts.specs.InRange.{IsInRange, IsPointInRange, sizes_of}
use Rattle.lk_facts.specs.Labels.{LabelTable}
use Rattle.lk_facts.specs.Program.{action_at, effect_at, live_at, site_at, value_site_of}
use Rattle.lk_facts.specs.declared.action.Action.{Action}
use Rattle.lk_facts.specs.declared.edge.Edge.{Edge}
use Rattle.lk_facts.specs.declared.effect.Effect.TheVariants as to
use Rattle.lk_facts.specs.declared.point.Point.{Point}
use Rattle.lk_facts.specs.declared.program.Program.{Program}
use Rattle.lk_right.proofs.Doing.{Acts, frames_sound, get_last, own_at}
use Rattle.lk_right.specs.Contexts.{Contexts, frames_of, entered_from, entered_context}
use Rattle.lk_right.specs.Sound.{IsCalling, IsFrameSound, AreFramesSound}
use Rattle.lk_types.proofs.GrowLemmas.{get_before}
use Rattle.lk_values.proofs.Reasons.{mapped}
use Rattle.lk_values.specs.declared.value.Value.{Value}

-- the value is that of the operand k of a list
abbrev pub IsGivenAt : Thread → List ℕ → ℕ → Value → Type 0
IsGivenAt thread args k v = (a : ℕ) × (slice_get args k ≡ Some a) × (operand thread a ≡ Some v)

-- arguments that are all given are the values of their operands
pub argument_given : (thread : Thread) (args : List ℕ) (values : List Value) → all_given (map (operand thread) args) ≡ Some values →
    (k : ℕ) (v : Value) → slice_get values k ≡ Some v → IsGivenAt thread args k v
argument_given thread [] values h k v is = absurd (none-some v (sym (ap (λ (vs : List Value). slice_get vs k) (sym (same_Some [] values h))) ∙ is))
argument_given thread (a ∷ args) values h k v is = by (operand thread a) refl h (argument_given thread args)
  where
    found : (x : Value) (vs : List Value) (k : ℕ) → operand thread a ≡ Some x → ((j : ℕ) → slice_get vs j ≡ Some v → IsGivenAt thread args j v) →
        slice_get (x ∷ vs) k ≡ Some v → IsGivenAt thread (a ∷ args) k v
    found x vs zero first more is = (a, refl, first ∙ is)
    found x vs (suc j) first more is = more j is

    by : (o : Option Value) → operand thread a ≡ o → all_given (o ∷ map (operand thread) args) ≡ Some values →
        ((vs : List Value) → all_given (map (operand thread) args) ≡ Some vs → (j : ℕ) (x : Value) → slice_get vs j ≡ Some x → IsGivenAt thread args j x) → IsGivenAt thread (a ∷ args) k v
    by None first h more = absurd (none-some values h)
    by (Some x) first h more =
        let vs = mapped (λ (vs : List Value). x ∷ vs) (all_given (map (operand thread) args)) values h in
        found x vs.0 k first (λ j. more vs.0 vs.1 j v) (ap (λ (vs : List Value). slice_get vs k) vs.2 ∙ is)

module _ (program : Program) where
  -- what the action of a point is to the analysis
  pub effect_is : (p : ℕ) (action : Action) → action_at program p ≡ Some action → effect_at program p ≡ Some (effect_of action)
  effect_is p action h =
      let point = mapped (λ (point : Point). point.action) (slice_get program.points p) action h in
      ap (option_map (λ (point : Point). effect_of point.action)) point.1 ∙ ap (λ act. Some (effect_of act)) point.2

  -- a live call or creation has a site
  pub has_site : IsInRange program → (p : ℕ) (action : Action) → action_at program p ≡ Some action → live_at program p ≡ true → is_some (entered (effect_of action)) ≡ true →
      (i : ℕ) × (site_at program p ≡ Some i)
  has_site in_range p action h live enters =
      let found = mapped (λ (point : Point). point.action) (slice_get program.points p) action h in
      let point = found.0 in
      let sited = (All-got (IsPointInRange (sizes_of program)) program.points p point in_range.parts.points found.1).site.exactly in
      let is_live : point.live ≡ true = sym (ap (λ o. option_map_or (λ (point : Point). point.live) o false) found.1) ∙ live in
      let is_entered : is_some (entered (effect_of point.action)) ≡ true = ap (λ act. is_some (entered (effect_of act))) found.2 ∙ enters in
      let site = is_there point.site (sited ∙ ap (λ b. b && is_some (entered (effect_of point.action))) is_live ∙ is_entered) in
      (site.0, ap (option_and_then (λ (point : Point). point.site)) found.1 ∙ site.1)
    where
      is_there : (o : Option ℕ) → is_some o ≡ true → (i : ℕ) × (o ≡ Some i)
      is_there None h = absurd cc
      is_there (Some i) h = (i, refl)

  -- the context of a function that is entered at the site of a point
  pub enters_at_site : (p g i : ℕ) (c : List ℕ) (f : ℕ) → effect_at program p ≡ Some (to.Runs f) → site_at program p ≡ Some i → entered_context program p g c ≡ i ∷ c
  enters_at_site p g i c f does site = ap (λ o. option_map_or (entered_from program p g c) o c) does ∙ ap (λ o. listed o ++ c) site

  pub starts_at_site : (p g i : ℕ) (c : List ℕ) (f : ℕ) → effect_at program p ≡ Some (to.Starts f) → site_at program p ≡ Some i → entered_context program p g c ≡ i ∷ c
  starts_at_site p g i c f does site = ap (λ o. option_map_or (entered_from program p g c) o c) does ∙ ap (λ o. listed o ++ c) site

  -- the context of one that is entered through a pointer
  pub enters_by_value : (p g i : ℕ) (c : List ℕ) (a : ℕ) → effect_at program p ≡ Some (to.RunsThrough a) → value_site_of program g ≡ Some i → entered_context program p g c ≡ i ∷ []
  enters_by_value p g i c a does site = ap (λ o. option_map_or (entered_from program p g c) o c) does ∙ ap listed site

module _ (program : Program) (labels : LabelTable) (es : List Edge) (contexts : Contexts) (s : State) (t w f : ℕ) (thread : Thread) (cs : List (List ℕ)) (c : List ℕ) (action : Action) (ch : Change)
    (acts : Acts program labels es contexts s t w f thread cs c action ch) where
  abbrev frames : AreFramesSound program labels es contexts.homes (frames_of thread) cs
  frames = frames_sound program labels es contexts s t w f thread cs c action ch acts

  -- the frame that called that of the thread is sound, in its context
  pub record Caller (caller : Frame) : Type 0 where
    pub function : ℕ
    pub context : List ℕ
    pub in_context : slice_get cs (length thread.below - 1) ≡ Some context
    pub sound : IsFrameSound program labels es contexts.homes function context caller
    pub called : IsCalling program caller context f c

  pub caller_sound : (caller : Frame) → caller_of thread ≡ Some caller → Caller caller
  caller_sound caller is =
      let j = length thread.below - 1 in
      let within : j < length thread.below = slice_get_within thread.below j caller is in
      let caller_at : slice_get (frames_of thread) j ≡ Some caller = get_before thread.below (thread.frame ∷ []) j within ∙ is in
      let one = frames.each j caller caller_at in
      let next : length thread.below ≡ suc j = omega (arith, within) in
      let frame_at = ap (λ n. slice_get (frames_of thread) n) (sym next) ∙ get_last thread.below thread.frame in
      let own = ap (λ n. slice_get cs n) (sym next) ∙ own_at program labels es contexts s t w f thread cs c action ch acts in
      record {
        function = one.function;
        context = one.context;
        in_context = one.in_context;
        sound = one.sound;
        called = frames.calls j f caller thread.frame one.context c caller_at frame_at one.in_context own acts.performs.stands;
      }
