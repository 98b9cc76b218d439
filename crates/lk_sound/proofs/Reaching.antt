-- The invariant along runs, and soundness of cells from it.
use Rattle.std.proofs.Common.{◌≡◌, ◌<◌, ℕ, Bool, true, false, ◌||◌, List, [], ◌∷◌, ◌++◌, length, Option, Some, None, refl, sym, ap, subst, ◌∙◌}
use Rattle.std.proofs.lemmas.Option.{none-some, same_Some, slice_get_within}
use Rattle.std.specs.List.{slice_get}
use Rattle.std.specs.Option.{option_map, option_map_or, option_and_then}
use Rattle.std.specs.Prelude.{if◌then◌else◌}
use Rattle.lk_birth.specs.Starts.{started}
use Rattle.lk_cells.specs.declared.state.State.{State}
use Rattle.lk_cells.specs.declared.state.Thread.{Thread}
use Rattle.lk_change.specs.Changes.{change}
use Rattle.lk_change.specs.declared.change.Change.{Change}
use Rattle.lk_decide.specs.Undefined.{cause}
use Rattle.lk_decide.specs.Waiting.{waits}
use Rattle.lk_facts.specs.Labels.{LabelTable}
use Rattle.lk_facts.specs.Program.{action_at}
use Rattle.lk_facts.specs.declared.action.Action.{Action}
use Rattle.lk_facts.specs.declared.edge.Edge.{Edge}
use Rattle.lk_facts.specs.declared.program.Program.{Program}
use Rattle.lk_meaning.specs.Decisions.{decision, decision_of, unless, moves_or_not}
use Rattle.lk_meaning.specs.Reached.{Choice, Leads}
use Rattle.lk_meaning.specs.Reached.Leads.{stays, goes}
use Rattle.lk_meaning.specs.Runs.{touch, touched_by}
use Rattle.lk_meaning.specs.Stepping.{Tells, event_of, touched_cell}
use Rattle.lk_meaning.specs.declared.deciding.Decision.{Decision}
use Rattle.lk_meaning.specs.declared.deciding.Decision.TheVariants as decides
use Rattle.lk_meaning.specs.declared.stepping.Stepped.{Stepped}
use Rattle.lk_meaning.specs.declared.stepping.Stepped.TheVariants.{Moved, Waits, Undefined, Ended, NoSuchThread, Full, NoMemory}
use Rattle.lk_meaning.specs.declared.touching.Touched.{Touched}
use Rattle.lk_right.specs.Contexts.{Contexts, last_of}
use Rattle.lk_right.specs.Laws.{Performs, ChangesAreRight}
use Rattle.lk_right.specs.Sound.{IsSound, IsFrameSoundAt}
use Rattle.lk_sound.proofs.Acting.{touched_sound}
use Rattle.lk_sound.proofs.PlaceNumbers.{element_at}
use Rattle.lk_sound.specs.Soundness.{StartIsSound, RightChangesKeep, StepsKeepSound, ReachedIsSound, CellsAreSound, IsAccessSound, IsEventSound, IsSteppedSound, first_contexts, contexts_next}
use Rattle.lk_values.specs.declared.cell.Cell.{Cell}
use Rattle.lk_values.specs.declared.why.Why.{Why}
use Rattle.lk_values.specs.declared.why.Why.TheVariants.{WrongType}

pub last_element : {X : Type 0} → (xs : List X) (x : X) → slice_get (xs ++ x ∷ []) (length xs) ≡ Some x
last_element [] x = refl
last_element (y ∷ xs) x = last_element xs x

-- the action of a step, for which no cause holds, and its change
record Acts (program : Program) (s : State) (t w : ℕ) (thread : Thread) (made : Change) : Type 0 where
  action : Action
  at : action_at program thread.frame.point ≡ Some action
  none : cause program s t thread action ≡ None
  is : change program s t thread w action ≡ Some made

abbrev change_in : Decision → Option Change
change_in (decides.Moves made) = Some made
change_in decides.Waits = None
change_in (decides.Undefined why) = None

module _ (program : Program) (s : State) (t w : ℕ) (thread : Thread) (made : Change) where
  moving : (c : Option Change) → moves_or_not c ≡ decides.Moves made → c ≡ Some made
  moving None h = absurd (none-some made (ap change_in h))
  moving (Some x) h = ap change_in h

  unless_moves : (why : Option Why) (busy : Bool) (d : Decision) → unless why busy d ≡ decides.Moves made → (why ≡ None) × (d ≡ decides.Moves made)
  unless_moves (Some why) busy d h = absurd (none-some made (ap change_in h))
  unless_moves None true d h = absurd (none-some made (ap change_in h))
  unless_moves None false d h = (refl, h)

  acts : decision program s t thread w ≡ decides.Moves made → Acts program s t w thread made
  acts h = by (action_at program thread.frame.point) refl h
    where
      by : (found : Option Action) → action_at program thread.frame.point ≡ found → option_map_or (decision_of program s t thread w) found (decides.Undefined WrongType) ≡ decides.Moves made → Acts program s t w thread made
      by None is h = absurd (none-some made (ap change_in h))
      by (Some action) is h =
          let all = unless_moves (cause program s t thread action) (waits program s thread action) (moves_or_not (change program s t thread w action)) h in
          record { action = action; at = is; none = all.0; is = moving (change program s t thread w action) all.1 }

-- the frame in which a thread of a sound state is
module _ (program : Program) (labels : LabelTable) (es : List Edge) (contexts : Contexts) (s : State) (sound : IsSound program labels es contexts s) (t : ℕ) (thread : Thread) (there : slice_get s.threads t ≡ Some thread) where
  record Stands : Type 0 where
    frames : List (List ℕ)
    in_contexts : slice_get contexts.frames t ≡ Some frames
    own : IsFrameSoundAt program labels es contexts.homes frames (length thread.below) thread.frame

  stands : Stands
  stands =
      let cs = element_at contexts.frames t (subst (λ n. t < n) (sym sound.threads_many) (slice_get_within s.threads t thread there)) in
      record { frames = cs.0; in_contexts = cs.1; own = (sound.threads t thread cs.0 there cs.1).each (length thread.below) thread.frame (last_element thread.below thread.frame) }

-- each step keeps the invariant
pub steps_keep_sound : ChangesAreRight → RightChangesKeep → StepsKeepSound
steps_keep_sound right keep program labels es ok contexts s s2 t w sound step =
    let acting = acts program s t w step.thread step.change step.moves in
    let at = stands program labels es contexts s sound t step.thread step.may.there in
    let performs : Performs program contexts s t step.thread at.own.function at.frames (last_of at.frames) acting.action = record { there = step.may.there; in_contexts = at.in_contexts; in_context = refl; stands = at.own.sound.stands; at = acting.at } in
    let is_right = right program labels es ok contexts s sound t w at.own.function step.thread at.frames (last_of at.frames) acting.action step.change performs acting.none acting.is in
    subst (IsSound program labels es (contexts_next program contexts t step.thread step.change)) (sym step.is)
    (keep program labels es ok contexts s sound t at.own.function step.thread at.frames (last_of at.frames) acting.action step.change performs is_right)

-- each state that is reached has it
pub reached_is_sound : StartIsSound → StepsKeepSound → ReachedIsSound
reached_is_sound start keep program labels es ok s reached = on reached.run (first_contexts (started program reached.args)) (start program labels es ok reached.begins reached.args)
  where
    on : {s s2 : State} {choices : List Choice} → Leads program s choices s2 → (contexts : Contexts) → IsSound program labels es contexts s → (after : Contexts) × IsSound program labels es after s2
    on stays contexts sound = (contexts, sound)
    on (goes {s = s} {s2 = s2} {t = t} {w = w} step rest) contexts sound =
        on rest (contexts_next program contexts t step.thread step.change) (keep program labels es ok contexts s s2 t w sound step)

-- what a thread that is there touches, by its action
touched_at : (program : Program) (s : State) (t : ℕ) (thread : Thread) (touched : Touched) → slice_get s.threads t ≡ Some thread → touch program s t ≡ Some touched →
    (action : Action) × (action_at program thread.frame.point ≡ Some action) × (touched_by s thread action ≡ Some touched)
touched_at program s t thread touched there h = by_end (thread.ended || s.ended) (ap (λ o. option_and_then touch_of o) (sym there) ∙ h)
  where
    touch_of : Thread → Option Touched
    touch_of thread = if thread.ended || s.ended then None else option_and_then (touched_by s thread) (action_at program thread.frame.point)

    by_action : (found : Option Action) → action_at program thread.frame.point ≡ found → option_and_then (touched_by s thread) found ≡ Some touched →
        (action : Action) × (action_at program thread.frame.point ≡ Some action) × (touched_by s thread action ≡ Some touched)
    by_action None is h = absurd (none-some touched h)
    by_action (Some action) is h = (action, is, h)

    by_end : (b : Bool) → (if b then None else option_and_then (touched_by s thread) (action_at program thread.frame.point)) ≡ Some touched →
        (action : Action) × (action_at program thread.frame.point ≡ Some action) × (touched_by s thread action ≡ Some touched)
    by_end true h = absurd (none-some touched h)
    by_end false h = by_action (action_at program thread.frame.point) refl h

-- soundness of cells
pub cells_are_sound : ReachedIsSound → CellsAreSound
cells_are_sound reach program labels es flow ok closed s reached t thread touched there h =
    let found = reach program labels es ok s reached in
    let at = stands program labels es found.0 s found.1 t thread there in
    let acting = touched_at program s t thread touched there h in
    touched_sound program labels es ok flow closed found.0 s found.1 at.own.function at.own.context thread at.own.sound acting.0 acting.1 touched acting.2

-- and so of what a step tells
touched_is : (program : Program) (s : State) (t : ℕ) (cell : Cell) → touched_cell program s t ≡ Some cell → (touched : Touched) × (touch program s t ≡ Some touched) × (touched.cell ≡ cell)
touched_is program s t cell h = by (touch program s t) refl h
  where
    by : (found : Option Touched) → touch program s t ≡ found → option_map (λ touched. touched.cell) found ≡ Some cell → (touched : Touched) × (touch program s t ≡ Some touched) × (touched.cell ≡ cell)
    by None is h = absurd (none-some cell h)
    by (Some touched) is h = (touched, is, same_Some touched.cell cell h)

event_is_sound : CellsAreSound → (program : Program) (s : State) (t : ℕ) (thread : Thread) → slice_get s.threads t ≡ Some thread → IsEventSound program s (event_of program s t thread)
event_is_sound cells program s t thread there labels es flow ok closed reached cell h =
    let found = touched_is program s t cell h in
    subst (λ x. IsAccessSound program labels flow s thread.frame.point x) found.2 (cells program labels es flow ok closed s reached t thread found.0 there found.1)

pub stepped_is_sound : CellsAreSound → (program : Program) (s : State) (t w : ℕ) (stepped : Stepped) → Tells program s t w stepped → IsSteppedSound program s stepped
stepped_is_sound cells program s t w (Moved s2 event) tells = subst (IsEventSound program s) (sym tells.tells) (event_is_sound cells program s t tells.step.thread tells.step.may.there)
stepped_is_sound cells program s t w (Waits s2) tells = tells.1
stepped_is_sound cells program s t w (Undefined s2 why) tells = tells.1
stepped_is_sound cells program s t w (Ended s2) tells = tells.1
stepped_is_sound cells program s t w (NoSuchThread s2) tells = tells.1
stepped_is_sound cells program s t w (Full s2) tells = tells.1
stepped_is_sound cells program s t w (NoMemory s2) tells = tells
