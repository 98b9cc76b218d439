-- How control goes into functions, by calls, through pointers, and by creations of threads; and what returns and other points do to the rules.
use Rattle.std.proofs.Common.{◌≡◌, ◌<◌, ℕ, Bool, true, false, List, [], length, Option, Some, refl, sym, ap, subst, ◌∙◌}
use Rattle.std.proofs.lemmas.Option.{same_Some}
use Rattle.std.specs.List.{slice_get}
use Rattle.std.specs.Option.{option_map, option_map_or}
use Rattle.lk_cells.specs.declared.state.Frame.{Frame}
use Rattle.lk_facts.proofs.Sets.{All-got}
use Rattle.lk_facts.specs.Basis.{Basis}
use Rattle.lk_facts.specs.Doing.{Does, NamesFunction, MayCall, Runs, Starts}
use Rattle.lk_facts.specs.Doing as doing
use Rattle.lk_facts.specs.EdgeRules.{value, code}
use Rattle.lk_facts.specs.Effects.{effect_of}
use Rattle.lk_facts.specs.Held.{RunsNone}
use Rattle.lk_facts.specs.InRange.{IsPointInRange, sizes_of}
use Rattle.lk_facts.specs.LabelRules.IsWithin.{start as within_start}
use Rattle.lk_facts.specs.Labels.{is_origin_at}
use Rattle.lk_facts.specs.Program.{action_at, entry_of, exit_of, function_at, live_at, next_of, value_site_of}
use Rattle.lk_facts.specs.declared.action.Action.{Action}
use Rattle.lk_facts.specs.declared.action.Action.TheVariants as action
use Rattle.lk_facts.specs.declared.edge.Edge.{Edge}
use Rattle.lk_facts.specs.declared.effect.Effect.{Effect}
use Rattle.lk_facts.specs.declared.effect.Effect.TheVariants.{Frees}
use Rattle.lk_facts.specs.declared.function.Function.{Function as FunctionOf}
use Rattle.lk_facts.specs.declared.label_entry.LabelName.{LabelName}
use Rattle.lk_facts.specs.declared.point.Point.{Point}
use Rattle.lk_facts.specs.declared.program.Program.{Program}
use Rattle.lk_facts.specs.declared.way.Way.{Way}
use Rattle.lk_facts.specs.declared.way.Way.TheVariants.{Through, AsValue}
use Rattle.lk_laws.proofs.Walking.{up_down}
use Rattle.lk_right.proofs.Callers.{effect_is, has_site, starts_at_site}
use Rattle.lk_right.proofs.Doing.{has_got}
use Rattle.lk_right.specs.Contexts.{Home, entered_context}
use Rattle.lk_right.specs.Laws.{IsAnalysed}
use Rattle.lk_right.specs.Right.{IsFunctionRight, IsPlaceAt}
use Rattle.lk_right.specs.Sound.{IsCalling, IsFrameSound}
use Rattle.lk_right.specs.Sound.IsCalling.{direct, through}
use Rattle.lk_sound.proofs.Touching.{target_number, origin_known}
use Rattle.lk_safe.proofs.Succeeding.{RunsNot}
use Rattle.lk_safe.specs.Steps.{IsFollowed}
use Rattle.lk_sound.proofs.PlaceNumbers.{element_at}
use Rattle.lk_trails.specs.Trails.{GoesInto, Enters, Begins, IsReturn, inside_of, stay}
use Rattle.lk_types.specs.Nodes.{Node}
use Rattle.lk_values.proofs.Reasons.{mapped}
use Rattle.lk_values.specs.declared.value.Value.TheVariants.{Function}

-- the label of a function names it by the number of its root
abbrev pub NamesFunctions : Basis → Type 0
NamesFunctions basis = (o g : ℕ) (x : LabelName) → slice_get basis.labels.names o ≡ Some x → code basis.program g x → NamesFunction basis o g

module _ (basis : Basis) (es : List Edge) (followed : IsFollowed basis es) where
  abbrev program : Program
  program = basis.program

  abbrev ok : IsAnalysed basis.program basis.labels es
  ok = followed.analysed

  -- the point p of the function f goes into the function g by some way, from the context c into the context d
  pub record GoesBy (p f g : ℕ) (c d : List ℕ) (created : Bool) : Type 0 where
    pub way : Way
    pub goes : GoesInto basis p f way g created
    pub inside : d ≡ inside_of way c

  does_at : (p f : ℕ) (act : Action) → live_at program p ≡ true → function_at program p ≡ Some f → action_at program p ≡ Some act → Does program p f (effect_of act)
  does_at p f act live stands at = record { live = live; of = stands; is = effect_is program p act at }

  -- ---- calls

  -- a function that an operand points to may be called through it
  may_call : NamesFunctions basis → (homes : List Home) (a g i : ℕ) (c : List ℕ) → IsFunctionRight program basis.labels es homes g (value program a) c →
      value_site_of program g ≡ Some i → MayCall basis a g i
  may_call names homes a g i c right site = record {
    target = right.flows.to;
    origin = right.flows.from;
    points_to = target_number program basis.labels es ok a right.flows.to right.aim (right.held_by, right.is, right.aims.leads) right.flows.to_at;
    may_be = up_down es basis.labels basis.flow followed.closed right.flows.from right.flows.to [] c is_origin right.flows.walk;
    names = names right.flows.from g right.origin right.flows.from_at right.place;
    own_site = site;
  }
    where
      place : IsPlaceAt program right.place.0 [] right.origin
      place =
          let whole = right.place.2 in
          record { ty = whole.ty; of = whole.has; holder = whole.holder; within = within_start right.origin.node whole.start; leads = ap (λ (n : Node). Some n) (sym whole.start.first) }

      is_origin : is_origin_at basis.labels right.flows.from ≡ true
      is_origin = origin_known program basis.labels es ok right.flows.from right.place.0 [] right.origin right.flows.from_at place

  -- a frame that called another one went into its function
  pub call_goes : NamesFunctions basis → (homes : List Home) (caller : Frame) (f g : ℕ) (c d : List ℕ) → IsFrameSound program basis.labels es homes f c caller → IsCalling program caller c g d →
      GoesBy caller.point f g c d false
  call_goes names homes caller f g c d sound (direct i args at site is) =
      record { way = Through i; goes = GoesInto.run (Runs.call g i (does_at caller.point f (action.Call g args) sound.live sound.stands at) site); inside = is }
  call_goes names homes caller f g c d sound (through a i args at gave site is) =
      let right : IsFunctionRight program basis.labels es homes g (value program a) c = sound.values a (Function g) gave in
      record {
        way = AsValue i;
        goes = GoesInto.run (Runs.pointer g a i (does_at caller.point f (action.PointerCall a args) sound.live sound.stands at) (may_call names homes a g i c right site));
        inside = is;
      }

  -- a creation goes into the function in which its thread begins
  pub creation_goes : (p f g a : ℕ) (c : List ℕ) → live_at program p ≡ true → function_at program p ≡ Some f → action_at program p ≡ Some (action.Create g a) →
      GoesBy p f g c (entered_context program p g c) true
  creation_goes p f g a c live stands at =
      let site = has_site program ok.in_range p (action.Create g a) at live refl in
      record {
        way = Through site.0;
        goes = GoesInto.start (Starts.create g site.0 (does_at p f (action.Create g a) live stands at) site.1);
        inside = starts_at_site program p g site.0 c g (effect_is program p (action.Create g a) at) site.1;
      }

  abbrev pub enters_by : (p f g q : ℕ) (c d : List ℕ) (created : Bool) → GoesBy p f g c d created → function_at program q ≡ Some g → Enters basis (stay p c) created (stay q d)
  enters_by p f g q c d created by stands = record { f = f; g = g; way = by.way; goes = by.goes; stands = stands; inside = by.inside }

  -- it begins at its entry
  abbrev pub begins_by : (p f g q : ℕ) (c d : List ℕ) (created : Bool) → GoesBy p f g c d created → entry_of program g ≡ Some q → Begins basis (stay p c) created (stay q d)
  begins_by p f g q c d created by entry = record { enters = enters_by p f g q c d created by (ok.lowered.entries g q entry).stands; entry = entry }

  -- ---- returns

  known_function : (p f : ℕ) → live_at program p ≡ true → function_at program p ≡ Some f → f < length program.functions
  known_function p f live stands =
      let found = mapped (λ (point : Point). point.function) (slice_get program.points p) f stands in
      let within = (All-got (IsPointInRange (sizes_of program)) program.points p found.0 ok.in_range.parts.points found.1).live
      (sym (ap (λ o. option_map_or (λ (point : Point). point.live) o false) found.1) ∙ live) in
      subst (λ g. g < length program.functions) found.2 within

  pub return_is : (p f : ℕ) (a : Option ℕ) → live_at program p ≡ true → function_at program p ≡ Some f → action_at program p ≡ Some (action.Return a) → IsReturn basis p
  return_is p f a live stands at =
      let function = element_at program.functions f (known_function p f live stands) in
      let exits : exit_of program f ≡ Some function.0.exit = ap (option_map (λ (function : FunctionOf). function.exit)) function.1 in
      record {
        g = f;
        exit = function.0.exit;
        stands = stands;
        exits = exits;
        next = has_got (next_of program p) 0 function.0.exit (ap (λ (ids : List ℕ). slice_get ids 0) (ok.lowered.returns p f function.0.exit a at stands exits));
        live = live;
        idle = effect_is program p (action.Return a) at;
      }

  -- ---- other points

  -- a point whose action runs no function
  pub runs_none : (p : ℕ) (act : Action) → action_at program p ≡ Some act → RunsNot (effect_of act) → RunsNone basis p
  runs_none p act at not f g way runs = no_run runs
    where
      no_run : {f g : ℕ} {way : Way} → Runs basis p f way g → ⊥
      no_run (Runs.call h i does site) = subst RunsNot (same_Some _ _ (sym (effect_is program p act at) ∙ does.is)) not
      no_run (Runs.pointer h a i does may) = subst RunsNot (same_Some _ _ (sym (effect_is program p act at) ∙ does.is)) not

  -- a point whose action does what no Frees does
  pub frees_none : (P : Effect → Type 0) → ((a : ℕ) → P (Frees a) → ⊥) → (p : ℕ) (act : Action) → action_at program p ≡ Some act → P (effect_of act) → (f x : ℕ) → doing.Frees basis p f x → ⊥
  frees_none P none p act at has f x (doing.Frees.frees a does leads) = none a (subst P (same_Some _ _ (sym (effect_is program p act at) ∙ does.is)) has)
