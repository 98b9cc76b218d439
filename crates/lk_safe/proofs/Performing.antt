-- A step of a thread: the action that it performs, and what that puts into a cell.
use Rattle.std.proofs.Common.{◌≡◌, ◌<◌, ℕ, Bool, true, false, List, [], Option, None, Some, refl, sym, ap, subst, ◌∙◌, length}
use Rattle.std.proofs.lemmas.Option.{none-some, slice_get_within}
use Rattle.std.specs.Option.{option_map, option_map_or, option_and_then}
use Rattle.lk_cells.specs.Places as places
use Rattle.lk_cells.specs.declared.state.State.{State}
use Rattle.lk_cells.specs.declared.state.Thread.{Thread}
use Rattle.lk_change.specs.Changes.{change}
use Rattle.lk_change.specs.Going as going
use Rattle.lk_change.specs.Locks.{mutex_made}
use Rattle.lk_change.specs.declared.change.Change.{Change}
use Rattle.lk_change.specs.declared.change.Change.TheVariants.{Goes}
use Rattle.lk_change.specs.declared.change.Effect.{Effect}
use Rattle.lk_change.specs.declared.change.Effect.TheVariants as effect
use Rattle.lk_change.specs.declared.change.Turn.TheVariants as turn
use Rattle.lk_decide.specs.Undefined.{cause}
use Rattle.lk_decide.specs.Waiting.{waits}
use Rattle.lk_facts.specs.Labels.{LabelTable}
use Rattle.lk_facts.specs.Program.{action_at}
use Rattle.lk_facts.specs.declared.action.Action.{Action}
use Rattle.lk_facts.specs.declared.edge.Edge.{Edge}
use Rattle.lk_facts.specs.declared.program.Program.{Program}
use Rattle.lk_meaning.specs.Decisions.{decision, decision_of, unless, moves_or_not}
use Rattle.lk_meaning.specs.Laws.{mutex_in}
use Rattle.lk_meaning.specs.Steps.{Step}
use Rattle.lk_meaning.specs.declared.deciding.Decision.{Decision}
use Rattle.lk_meaning.specs.declared.deciding.Decision.TheVariants as decides
use Rattle.lk_right.proofs.Doing.{Acts}
use Rattle.lk_right.specs.Contexts.{Contexts, last_of, own_context}
use Rattle.lk_right.specs.Laws.{IsAnalysed}
use Rattle.lk_right.specs.Sound.{IsSound}
use Rattle.lk_sound.proofs.PlaceNumbers.{element_at}
use Rattle.lk_sound.proofs.Reaching.{last_element}
use Rattle.lk_values.proofs.Reasons.{mapped, chained}
use Rattle.lk_values.specs.declared.cell.Cell.{Cell}
use Rattle.lk_values.specs.declared.value.Mutex.{Mutex}
use Rattle.lk_values.specs.declared.value.Value.{Value}
use Rattle.lk_values.specs.declared.why.Why.{Why}
use Rattle.lk_values.specs.declared.why.Why.TheVariants.{WrongType}

-- the action of a step, for which no cause holds, and its change
record IsDefined (program : Program) (s : State) (t w : ℕ) (thread : Thread) (made : Change) : Type 0 where
  action : Action
  at : action_at program thread.frame.point ≡ Some action
  none : cause program s t thread action ≡ None
  is : change program s t thread w action ≡ Some made

abbrev change_in : Decision → Option Change
change_in (decides.Moves made) = Some made
change_in decides.Waits = None
change_in (decides.Undefined why) = None

module _ (program : Program) (s : State) (t w : ℕ) (thread : Thread) (made : Change) where
  moving : (c : Option Change) → moves_or_not c ≡ decides.Moves made → c ≡ Some made
  moving None h = absurd (none-some made (ap change_in h))
  moving (Some x) h = ap change_in h

  unless_moves : (why : Option Why) (busy : Bool) (d : Decision) → unless why busy d ≡ decides.Moves made → (why ≡ None) × (d ≡ decides.Moves made)
  unless_moves (Some why) busy d h = absurd (none-some made (ap change_in h))
  unless_moves None true d h = absurd (none-some made (ap change_in h))
  unless_moves None false d h = (refl, h)

  defined : decision program s t thread w ≡ decides.Moves made → IsDefined program s t w thread made
  defined h = by (action_at program thread.frame.point) refl h
    where
      by : (found : Option Action) → action_at program thread.frame.point ≡ found → option_map_or (decision_of program s t thread w) found (decides.Undefined WrongType) ≡ decides.Moves made →
          IsDefined program s t w thread made
      by None is h = absurd (none-some made (ap change_in h))
      by (Some action) is h =
          let all = unless_moves (cause program s t thread action) (waits program s thread action) (moves_or_not (change program s t thread w action)) h in
          record { action = action; at = is; none = all.0; is = moving (change program s t thread w action) all.1 }

-- the thread performs an action, in a frame of a function, and in its own context
pub record Performing (program : Program) (labels : LabelTable) (es : List Edge) (contexts : Contexts) (s : State) (t w : ℕ) (thread : Thread) (made : Change) : Type 0 where
  pub function : ℕ
  pub frames : List (List ℕ)
  pub action : Action
  pub acts : Acts program labels es contexts s t w function thread frames (own_context contexts t) action made

-- the thread of a step of a sound state does so
pub performing : (program : Program) (labels : LabelTable) (es : List Edge) → IsAnalysed program labels es → (contexts : Contexts) (s s2 : State) (t w : ℕ) → IsSound program labels es contexts s →
    (step : Step program s t w s2) → Performing program labels es contexts s t w step.thread step.change
performing program labels es ok contexts s s2 t w sound step =
    let thread = step.thread in
    let is = defined program s t w thread step.change step.moves in
    let cs = element_at contexts.frames t (subst (λ n. t < n) (sym sound.threads_many) (slice_get_within s.threads t thread step.may.there)) in
    let frame = (sound.threads t thread cs.0 step.may.there cs.1).each (length thread.below) thread.frame (last_element thread.below thread.frame) in
    record {
      function = frame.function;
      frames = cs.0;
      action = is.action;
      acts = record {
        ok = ok;
        sound = sound;
        performs = record { there = step.may.there; in_contexts = cs.1; in_context = ap (λ o. option_map_or last_of o []) cs.1; stands = frame.sound.stands; at = is.at };
        defined = is.none;
        does = is.is;
      };
    }

-- ---- changes

-- a change that gives this, goes to the point q, and has the effect
abbrev pub goes_to : Option Value → ℕ → Effect → Change
goes_to given q e = Goes (record { gives = given; turn = turn.To q; effect = e })

-- the change goes on from the point p to its first successor, where there is an effect
pub record GoesOn (program : Program) (p : ℕ) (given : Option Value) (o : Option Effect) (made : Change) : Type 0 where
  pub to : ℕ
  pub e : Effect
  pub has : o ≡ Some e
  pub next : going.successor program p 0 ≡ Some to
  pub is : goes_to given to e ≡ made

module _ (program : Program) (p : ℕ) (o : Option Effect) (made : Change) where
  pub changes_goes : going.changes program p o ≡ Some made → GoesOn program p None o made
  changes_goes h =
      let e = chained (going.goes program p 0 None) o made h in
      let q = mapped (λ q. goes_to None q e.0) (going.successor program p 0) made e.2 in
      record { to = q.0; e = e.0; has = e.1; next = q.1; is = q.2 }

  pub succeeds_goes : going.succeeds program p o ≡ Some made → GoesOn program p (Some going.done) o made
  succeeds_goes h =
      let e = chained (going.goes program p 0 (Some going.done)) o made h in
      let q = mapped (λ q. goes_to (Some going.done) q e.0) (going.successor program p 0) made e.2 in
      record { to = q.0; e = e.0; has = e.1; next = q.1; is = q.2 }

-- the effect puts a mutex into the cell to which the value leads, where one was
pub record PutsMutex (program : Program) (s : State) (v : Option Value) (m : Mutex) (e : Effect) : Type 0 where
  pub cell : Cell
  pub found : Mutex
  pub leads : places.part_of s v ≡ Some cell
  pub there : mutex_in program s cell ≡ Some found
  pub is : effect.PutMutex cell m ≡ e

pub puts_mutex : (program : Program) (s : State) (v : Option Value) (m : Mutex) (e : Effect) → mutex_made program s v m ≡ Some e → PutsMutex program s v m e
puts_mutex program s v m e h =
    let found = chained (λ found. option_map (λ c. effect.PutMutex c m) (places.part_of s v)) (places.mutex_through program.types s v) e h in
    let cell = mapped (λ c. effect.PutMutex c m) (places.part_of s v) e found.2 in
    record { cell = cell.0; found = found.0; leads = cell.1; there = sym (ap (λ o. option_and_then (mutex_in program s) o) cell.1) ∙ found.1; is = cell.2 }
