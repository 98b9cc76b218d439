-- The laws of steps.
use Rattle.std.proofs.Common.{◌≡◌, ℕ, ◌<◌, ◌≤◌, zero, suc, Bool, true, false, ◌||◌, List, [], ◌∷◌, ◌++◌, length, Option, None, Some, refl, sym, ap, ◌∙◌, subst, inl, inr, ◌⊎◌, arith}
use Rattle.std.proofs.lemmas.Bool.{true≢false}
use Rattle.std.proofs.lemmas.Option.{none-some, same_Some, slice_get_past, slice_get_within, slice_get-map}
use Rattle.std.specs.Option.{option_and_then, option_map, option_map_or}
use Rattle.std.specs.Prelude.{slice_get}
use Rattle.lk_facts.specs.Program.{action_at}
use Rattle.lk_facts.specs.declared.action.Action.{Action}
use Rattle.lk_facts.specs.declared.action.Action.TheVariants as does
use Rattle.lk_facts.specs.declared.program.Program.{Program}
use Rattle.lk_values.specs.declared.cell.Cell.{Cell}
use Rattle.lk_values.specs.declared.value.Mutex.{Mutex}
use Rattle.lk_values.specs.declared.value.Mutex.TheVariants as mutex
use Rattle.lk_values.specs.declared.value.Value.{Value}
use Rattle.lk_values.specs.declared.why.Why.{Why}
use Rattle.lk_values.specs.declared.why.Why.TheVariants.{WrongType}
use Rattle.lk_cells.specs.Cells.{mutex_at, condition_at, value_at, with_value}
use Rattle.lk_cells.specs.Operands.{operand}
use Rattle.lk_cells.specs.Places as places
use Rattle.lk_cells.specs.Places.{is_taken}
use Rattle.lk_cells.specs.declared.object.Object.{Object}
use Rattle.lk_cells.specs.declared.state.Frame.{Frame}
use Rattle.lk_cells.specs.declared.state.State.{State}
use Rattle.lk_cells.specs.declared.state.Thread.{Thread}
use Rattle.lk_change.specs.Changes.{change}
use Rattle.lk_change.specs.Calls.{caller_of}
use Rattle.lk_change.specs.declared.change.Change.{Change}
use Rattle.lk_change.specs.declared.change.Change.TheVariants.{Goes, Enter, Leave, EndThread, EndProcess}
use Rattle.lk_change.specs.declared.change.Effect.{Effect}
use Rattle.lk_change.specs.declared.change.Effect.TheVariants as effect
use Rattle.lk_change.specs.declared.change.Turn.{Turn}
use Rattle.lk_decide.specs.Undefined.{cause}
use Rattle.lk_decide.specs.Waiting.{waits}
use Rattle.lk_birth.specs.Births.{changed_at, local_object, local_objects, bare_local, locals_of, argument, is_root}
use Rattle.lk_meaning.specs.Decisions.{decision, decision_of, unless, moves_or_not}
use Rattle.lk_meaning.specs.Reached.{Choice, Leads}
use Rattle.lk_meaning.specs.Laws.{Fate, FateIsOne, EachThreadHasOneFate, IsOver, EndedStayEnded, FirstStatesAreReached, StepsReach, mutex_in, condition_in, value_in, Owns, StandsAt, Takes, GivesBack, Makes, KeepsOwners, KeepsCells, WillWrite, IsThere, OwnersAreKept, OtherCellsAreKept}
use Rattle.lk_meaning.specs.After.{after_change, after_effect, with_put, moved_on, finished, born, gone_to, left, thread_ended, process_ended}
use Rattle.lk_meaning.specs.Full.{objects_made}
use Rattle.lk_meaning.specs.Steps.{Step, MayGoOn, HasEnded, thread_at}
use Rattle.lk_meaning.specs.declared.applying.Put.TheVariants as put
use Rattle.lk_meaning.specs.declared.deciding.Decision.{Decision}
use Rattle.lk_meaning.specs.declared.deciding.Decision.TheVariants as decides
use Rattle.lk_meaning.proofs.CellLemmas.{IsMutex, IsCondition, IsValue, mutex_reader, condition_reader, value_reader, mutex_same, not_owned, free_or_owned}
use Rattle.lk_meaning.proofs.Doing.{MayDo, MutexPut, Writes, may_do}
use Rattle.lk_meaning.proofs.Lengths.{objects_after}
use Rattle.lk_meaning.proofs.Reading.{effect_of, putting, change_kept, kept_changed, kept_left, same_changed, other_changed, is_same, read_at}

-- ---- fates

abbrev change_in : Decision → Option Change
change_in (decides.Moves change) = Some change
change_in decides.Waits = None
change_in (decides.Undefined why) = None

abbrev cause_in : Decision → Option Why
cause_in (decides.Moves change) = None
cause_in decides.Waits = None
cause_in (decides.Undefined why) = Some why

abbrev is_wait : Decision → Bool
is_wait (decides.Moves change) = false
is_wait decides.Waits = true
is_wait (decides.Undefined why) = false

neither_ended : (a b : Bool) → (a || b) ≡ false → (a ≡ false) × (b ≡ false)
neither_ended true b e = absurd (true≢false e)
neither_ended false true e = absurd (true≢false e)
neither_ended false false e = (refl, refl)

module _ (program : Program) (s : State) (t w : ℕ) where
  same_thread : (x y : Thread) → thread_at s t ≡ Some x → thread_at s t ≡ Some y → x ≡ y
  same_thread x y there here = same_Some x y (sym there ∙ here)

  same_decision : (x y : Thread) → thread_at s t ≡ Some x → thread_at s t ≡ Some y → decision program s t x w ≡ decision program s t y w
  same_decision x y there here = ap (λ thread. decision program s t thread w) (same_thread x y there here)

  -- a thread that may go on hasn't ended
  goes_or_ended : (thread : Thread) → MayGoOn s t thread → HasEnded s t → ⊥
  goes_or_ended thread may over =
      let ended : (thread.ended || s.ended) ≡ true = subst (λ x. (x.ended || s.ended) ≡ true) (same_thread over.thread thread over.there may.there) over.ended in
      let going : (thread.ended || s.ended) ≡ false = rw may.not_ended may.process in
      true≢false (sym ended ∙ going)

  one : FateIsOne program s t w
  one = record {
    one_state = λ s2 s3 a b.
        let same = same_Some _ _ (ap change_in (sym a.moves ∙ same_decision a.thread b.thread a.may.there b.may.there ∙ b.moves)) in
        a.is ∙ ap (λ c. after_change program t s c) same ∙ sym b.is;
    one_cause = λ x y a b. same_Some x y (ap cause_in (sym a.is ∙ same_decision a.thread b.thread a.may.there b.may.there ∙ b.is));
    moves_waits = λ s2 a b. true≢false (sym (ap is_wait (sym a.moves ∙ same_decision a.thread b.thread a.may.there b.may.there ∙ b.is)));
    moves_fails = λ s2 why a b. none-some why (ap cause_in (sym a.moves ∙ same_decision a.thread b.thread a.may.there b.may.there ∙ b.is));
    moves_ended = λ s2 a over. goes_or_ended a.thread a.may over;
    waits_fails = λ why a b. none-some why (ap cause_in (sym a.is ∙ same_decision a.thread b.thread a.may.there b.may.there ∙ b.is));
    waits_ended = λ a over. goes_or_ended a.thread a.may over;
    fails_ended = λ why a over. goes_or_ended a.thread a.may over;
  }

  fate_by : (thread : Thread) → MayGoOn s t thread → (d : Decision) → decision program s t thread w ≡ d → Fate program s t w
  fate_by thread may (decides.Moves change) is = Fate.moves (record { thread = thread; may = may; change = change; moves = is; is = refl })
  fate_by thread may decides.Waits is = Fate.waits (record { thread = thread; may = may; is = is })
  fate_by thread may (decides.Undefined why) is = Fate.fails (record { thread = thread; may = may; is = is })

  fate : (thread : Thread) → thread_at s t ≡ Some thread → (ended : Bool) → (thread.ended || s.ended) ≡ ended → Fate program s t w
  fate thread there true is = Fate.ended (record { thread = thread; there = there; ended = is })
  fate thread there false is =
      let both = neither_ended thread.ended s.ended is in
      fate_by thread (record { there = there; not_ended = both.0; process = both.1 }) (decision program s t thread w) refl

pub each_one : EachThreadHasOneFate
each_one program s t w thread there = (fate program s t w thread there (thread.ended || s.ended) refl, one program s t w)

-- ---- ends

abbrev ended_in : Thread → Option Bool
ended_in thread = Some thread.ended

abbrev KeepsEnds : List Thread → List Thread → Type 0
KeepsEnds xs ys = (u : ℕ) → read_at ended_in xs u ≡ Some true → read_at ended_in ys u ≡ Some true

kept_by_same : (xs : List Thread) (i : ℕ) (f : Thread → Thread) → ((x : Thread) → (f x).ended ≡ x.ended) → KeepsEnds xs (changed_at xs i f)
kept_by_same xs i f same u over = kept_changed ended_in xs i u f (λ x. ap (λ b. Some b) (same x)) ∙ over

kept_in_front : (xs ys : List Thread) → KeepsEnds xs (xs ++ ys)
kept_in_front xs ys u over = by (slice_get xs u) refl over
  where
    by : (found : Option Thread) → slice_get xs u ≡ found → option_and_then ended_in found ≡ Some true → read_at ended_in (xs ++ ys) u ≡ Some true
    by None is h = absurd (none-some true h)
    by (Some x) is h = kept_left ended_in xs ys u (slice_get_within xs u x is) ∙ over

finished_by : (xs : List Thread) (i : ℕ) → KeepsEnds xs (changed_at xs i finished)
finished_by xs i u over = elim (is_same u i) [
  | inl same ↦ subst (λ n. read_at ended_in (changed_at xs i finished) n ≡ Some true) (sym same)
      (same_changed ended_in xs i finished ∙ by (slice_get xs i) (subst (λ n. read_at ended_in xs n ≡ Some true) same over))
  | inr other ↦ other_changed ended_in xs i u finished other ∙ over
]
  where
    by : (found : Option Thread) → option_and_then ended_in found ≡ Some true → option_and_then (λ x. ended_in (finished x)) found ≡ Some true
    by None h = absurd (none-some true h)
    by (Some x) h = refl

same_turned : (given : Option Value) (to : Turn) (x : Thread) → (moved_on given to x).ended ≡ x.ended
same_turned given to x = refl

module _ (program : Program) (t : ℕ) where
  effect_ends : (s : State) (e : Effect) → KeepsEnds s.threads (after_effect program t s e).threads
  effect_ends s effect.Nothing = λ u over. over
  effect_ends s (effect.PutSlot slot v) = kept_by_same s.threads t _ (λ x. refl)
  effect_ends s (effect.PutValue c v) = λ u over. over
  effect_ends s (effect.PutMutex c m) = λ u over. over
  effect_ends s (effect.PutCondition c k) = λ u over. over
  effect_ends s (effect.Begin call) = λ u over. kept_in_front _ _ u (kept_by_same s.threads t _ (λ x. refl) u over)
  effect_ends s (effect.Join u) = kept_by_same s.threads u _ (λ x. refl)
  effect_ends s (effect.Detach u) = kept_by_same s.threads u _ (λ x. refl)
  effect_ends s (effect.Bear birth) = λ u over. over
  effect_ends s (effect.End o) = λ u over. over

  left_ends : (s : State) (v : Option Value) (q : ℕ) (thread : Thread) (caller : Option Frame) → KeepsEnds s.threads (option_map_or (left t s v q thread) caller s).threads
  left_ends s v q thread None = λ u over. over
  left_ends s v q thread (Some caller) = kept_by_same s.threads t _ (λ x. refl)

  leaving_ends : (s : State) (v : Option Value) (q : ℕ) (found : Option Thread) →
      KeepsEnds s.threads (option_map_or (λ thread. option_map_or (left t s v q thread) (caller_of thread) s) found s).threads
  leaving_ends s v q None = λ u over. over
  leaving_ends s v q (Some thread) = left_ends s v q thread (caller_of thread)

  ending_ends : (s : State) (found : Option Thread) → KeepsEnds s.threads (option_map_or (thread_ended t s) found s).threads
  ending_ends s None = λ u over. over
  ending_ends s (Some thread) = finished_by s.threads t

  ended_ends : (s : State) (found : Option Thread) → KeepsEnds s.threads (option_map_or (process_ended t s) found s).threads
  ended_ends s None = λ u over. over
  ended_ends s (Some thread) = λ u over. over

  change_ends : (s : State) (change : Change) → KeepsEnds s.threads (after_change program t s change).threads
  change_ends s (Goes going) = λ u over.
      effect_ends (gone_to s t going.gives going.turn) going.effect u (kept_by_same s.threads t _ (λ x. refl) u over)
  change_ends s (Enter call) = kept_by_same s.threads t _ (λ x. refl)
  change_ends s (Leave v q) = leaving_ends s v q (slice_get s.threads t)
  change_ends s EndThread = ending_ends s (slice_get s.threads t)
  change_ends s EndProcess = ended_ends s (slice_get s.threads t)

over_by : (s : State) (u : ℕ) (found : Option Thread) → slice_get s.threads u ≡ found → option_and_then ended_in found ≡ Some true → IsOver s u
over_by s u None is h = absurd (none-some true h)
over_by s u (Some x) is h = record { thread = x; there = is; ended = same_Some x.ended true h }

pub ended_stay : EndedStayEnded
ended_stay program s s2 t w u step over =
    let before : read_at ended_in s.threads u ≡ Some true = ap (λ o. option_and_then ended_in o) over.there ∙ ap (λ b. Some b) over.ended in
    subst (λ x. IsOver x u) (sym step.is)
    (over_by (after_change program t s step.change) u (slice_get (after_change program t s step.change).threads u) refl (change_ends program t s step.change u before))

-- ---- runs

leads_on : {program : Program} {s s2 s3 : State} {choices : List Choice} {t w : ℕ} → Leads program s choices s2 → Step program s2 t w s3 →
    Leads program s (choices ++ record { thread = t; word = w } ∷ []) s3
leads_on Leads.stays step = Leads.goes step Leads.stays
leads_on (Leads.goes first rest) step = Leads.goes first (leads_on rest step)

pub first_reached : FirstStatesAreReached
first_reached program args right = record { begins = right; args = args; choices = []; run = Leads.stays }

pub steps_reach : StepsReach
steps_reach program s s2 t w reached step = record { begins = reached.begins; args = reached.args; choices = reached.choices ++ record { thread = t; word = w } ∷ []; run = leads_on reached.run step }

-- ---- what a step does

-- the action of a step, for which no cause holds, that doesn't wait, and the change of its row
record Acts (program : Program) (s : State) (t w : ℕ) (thread : Thread) (ch : Change) : Type 0 where
  action : Action
  at : action_at program thread.frame.point ≡ Some action
  none : cause program s t thread action ≡ None
  free : waits program s thread action ≡ false
  is : change program s t thread w action ≡ Some ch

module _ (program : Program) (s : State) (t w : ℕ) (thread : Thread) (ch : Change) where
  moving : (c : Option Change) → moves_or_not c ≡ decides.Moves ch → c ≡ Some ch
  moving None h = absurd (none-some ch (ap change_in h))
  moving (Some x) h = ap change_in h

  unless_moves : (why : Option Why) (busy : Bool) (d : Decision) → unless why busy d ≡ decides.Moves ch → (why ≡ None) × (busy ≡ false) × (d ≡ decides.Moves ch)
  unless_moves (Some why) busy d h = absurd (none-some ch (ap change_in h))
  unless_moves None true d h = absurd (none-some ch (ap change_in h))
  unless_moves None false d h = (refl, refl, h)

  acts_by : (found : Option Action) → action_at program thread.frame.point ≡ found → option_map_or (decision_of program s t thread w) found (decides.Undefined WrongType) ≡ decides.Moves ch → Acts program s t w thread ch
  acts_by None is h = absurd (none-some ch (ap change_in h))
  acts_by (Some action) is h =
      let all = unless_moves (cause program s t thread action) (waits program s thread action) (moves_or_not (change program s t thread w action)) h in
      record { action = action; at = is; none = all.0; free = all.1; is = moving (change program s t thread w action) all.2 }

  acts : decision program s t thread w ≡ decides.Moves ch → Acts program s t w thread ch
  acts h = acts_by (action_at program thread.frame.point) refl h

  does_so : (a : Acts program s t w thread ch) → MayDo program s t thread a.action (effect_of ch)
  does_so a = may_do program s t thread w ch a.action a.none a.free a.is

-- ---- owners

is_below : (n m : ℕ) → (n < m) ⊎ (m ≤ n)
is_below n zero = inr (omega arith)
is_below zero (suc m) = inl (omega arith)
is_below (suc n) (suc m) = elim (is_below n m) [ inl below ↦ inl (omega (arith, below)) | inr above ↦ inr (omega (arith, above)) ]

get_right : {X : Type 0} → (xs ys : List X) (n : ℕ) → length xs ≤ n → (k : ℕ) × (slice_get (xs ++ ys) n ≡ slice_get ys k)
get_right [] ys n past = (n, refl)
get_right (x ∷ xs) ys zero past = absurd (omega (arith, past))
get_right (x ∷ xs) ys (suc n) past = get_right xs ys n (omega (arith, past))

-- objects in which no mutex was changed
abbrev AreNew : List Object → Type 0
AreNew objects = (n : ℕ) (x : Object) → slice_get objects n ≡ Some x → x.mutexes ≡ []

one_new : (x : Object) → x.mutexes ≡ [] → AreNew (x ∷ [])
one_new x is zero y there = subst (λ z. z.mutexes ≡ []) (same_Some x y there) is
one_new x is (suc n) y there = absurd (none-some y there)

module _ (program : Program) where
  local_new : (f : ℕ) (args : List Value) (r : ℕ) (v : Option Value) → (option_map_or (with_value (bare_local program f args r) []) v (bare_local program f args r)).mutexes ≡ []
  local_new f args r None = refl
  local_new f args r (Some v) = refl

  locals_new : (f : ℕ) (args : List Value) → AreNew (local_objects program f args)
  locals_new f args n x there = by (slice_get (locals_of program f) n) (sym (slice_get-map (local_object program f args) (locals_of program f) n) ∙ there)
    where
      by : (found : Option ℕ) → option_map (local_object program f args) found ≡ Some x → x.mutexes ≡ []
      by None h = absurd (none-some x h)
      by (Some r) h = subst (λ z. z.mutexes ≡ []) (same_Some _ x h) (local_new f args r (argument program f args (is_root r)))

  -- a mutex of an object that is made is owned by nobody
  made_unowned : (xs ys : List Object) (c : Cell) (u : ℕ) → AreNew ys → length xs ≤ c.object →
      option_and_then (λ x. mutex_at program.types x c.path) (slice_get (xs ++ ys) c.object) ≡ Some (mutex.Owned u) → ⊥
  made_unowned xs ys c u new past h =
      let right = get_right xs ys c.object past in
      by right.0 (slice_get ys right.0) refl (ap (λ o. option_and_then (λ x. mutex_at program.types x c.path) o) (sym right.1) ∙ h)
    where
      by : (k : ℕ) (found : Option Object) → slice_get ys k ≡ found → option_and_then (λ x. mutex_at program.types x c.path) found ≡ Some (mutex.Owned u) → ⊥
      by k None is h = none-some (mutex.Owned u) h
      by k (Some x) is h = not_owned program.types x c.path u (new k x is) h

  past_unowned : (xs : List Object) (c : Cell) (u : ℕ) → length xs ≤ c.object → option_and_then (λ x. mutex_at program.types x c.path) (slice_get xs c.object) ≡ Some (mutex.Owned u) → ⊥
  past_unowned xs c u past h = none-some (mutex.Owned u) (ap (λ o. option_and_then (λ x. mutex_at program.types x c.path) o) (sym (slice_get_past xs c.object past)) ∙ h)

  module _ (t : ℕ) (c : Cell) (u : ℕ) where
    -- where a change makes no objects
    none_made : (s : State) (change : Change) → objects_made program change ≡ 0 → length s.objects ≤ c.object → Owns program (after_change program t s change) u c → ⊥
    none_made s change zero_made past owns = past_unowned (after_change program t s change).objects c u (omega (arith, past, zero_made, objects_after program t s change)) owns

    -- a change with an effect
    abbrev going_on : Option Value → Turn → Effect → Change
    going_on given to e = Goes (record { gives = given; turn = to; effect = e })

    new_effect : (s : State) (e : Effect) (given : Option Value) (to : Turn) → length s.objects ≤ c.object → Owns program (after_change program t s (going_on given to e)) u c → ⊥
    new_effect s effect.Nothing given to past owns = none_made s (going_on given to effect.Nothing) refl past owns
    new_effect s (effect.PutSlot slot v) given to past owns = none_made s (going_on given to (effect.PutSlot slot v)) refl past owns
    new_effect s (effect.PutValue d v) given to past owns = none_made s (going_on given to (effect.PutValue d v)) refl past owns
    new_effect s (effect.PutMutex d m) given to past owns = none_made s (going_on given to (effect.PutMutex d m)) refl past owns
    new_effect s (effect.PutCondition d k) given to past owns = none_made s (going_on given to (effect.PutCondition d k)) refl past owns
    new_effect s (effect.Begin call) given to past owns = made_unowned s.objects (local_objects program call.function call.args) c u (locals_new call.function call.args) past owns
    new_effect s (effect.Join v) given to past owns = none_made s (going_on given to (effect.Join v)) refl past owns
    new_effect s (effect.Detach v) given to past owns = none_made s (going_on given to (effect.Detach v)) refl past owns
    new_effect s (effect.Bear birth) given to past owns = made_unowned s.objects (born program birth ∷ []) c u (one_new (born program birth) refl) past owns
    new_effect s (effect.End o) given to past owns = none_made s (going_on given to (effect.End o)) refl past owns

    -- a mutex of an object that wasn't there before a change is owned by nobody after it
    new_unowned : (s : State) (change : Change) → length s.objects ≤ c.object → Owns program (after_change program t s change) u c → ⊥
    new_unowned s (Goes going) past owns = new_effect s going.effect going.gives going.turn past owns
    new_unowned s (Enter call) past owns = made_unowned s.objects (local_objects program call.function call.args) c u (locals_new call.function call.args) past owns
    new_unowned s (Leave v q) past owns = none_made s (Leave v q) refl past owns
    new_unowned s EndThread past owns = none_made s EndThread refl past owns
    new_unowned s EndProcess past owns = none_made s EndProcess refl past owns

abbrev is_put : Effect → Bool
is_put effect.Nothing = false
is_put (effect.PutSlot slot v) = false
is_put (effect.PutValue c v) = true
is_put (effect.PutMutex c m) = true
is_put (effect.PutCondition c k) = true
is_put (effect.Begin call) = false
is_put (effect.Join u) = false
is_put (effect.Detach u) = false
is_put (effect.Bear birth) = false
is_put (effect.End o) = false

module _ (program : Program) (s : State) (t : ℕ) where
  -- the objects after a mutex was put
  put_objects : (ch : Change) (c : Cell) (m : Mutex) → effect_of ch ≡ effect.PutMutex c m → (after_change program t s ch).objects ≡ changed_at s.objects c.object (with_put c.path (put.Mutex m))
  put_objects (Goes going) c m h = ap (λ e. (after_effect program t (gone_to s t going.gives going.turn) e).objects) h
  put_objects (Enter call) c m h = absurd (true≢false (sym (ap is_put h)))
  put_objects (Leave v q) c m h = absurd (true≢false (sym (ap is_put h)))
  put_objects EndThread c m h = absurd (true≢false (sym (ap is_put h)))
  put_objects EndProcess c m h = absurd (true≢false (sym (ap is_put h)))

  -- who owns a mutex after it was put owns what was put
  put_owns : (ch : Change) (c : Cell) (m : Mutex) (u : ℕ) → effect_of ch ≡ effect.PutMutex c m → Owns program (after_change program t s ch) u c → mutex.Owned u ≡ m
  put_owns ch c m u h owns = by (slice_get s.objects c.object) (sym (same_changed (λ x. mutex_at program.types x c.path) s.objects c.object (with_put c.path (put.Mutex m)))
      ∙ ap (λ objects. option_and_then (λ x. mutex_at program.types x c.path) (slice_get objects c.object)) (sym (put_objects ch c m h)) ∙ owns)
    where
      by : (found : Option Object) → option_and_then (λ x. mutex_at program.types (with_put c.path (put.Mutex m) x) c.path) found ≡ Some (mutex.Owned u) → mutex.Owned u ≡ m
      by None is = absurd (none-some (mutex.Owned u) is)
      by (Some x) is = mutex_same program.types x c.path m (mutex.Owned u) is

  there_by : (c : Cell) (u : ℕ) (found : Option Object) → slice_get s.objects c.object ≡ found → option_and_then (λ x. mutex_at program.types x c.path) found ≡ Some (mutex.Owned u) → IsThere s c
  there_by c u None is h = absurd (none-some (mutex.Owned u) h)
  there_by c u (Some x) is h = slice_get_within s.objects c.object x is

abbrev owner_of : Mutex → Option ℕ
owner_of mutex.NotReady = None
owner_of mutex.Free = None
owner_of (mutex.Owned u) = Some u

same_owner : (u v : ℕ) → mutex.Owned u ≡ mutex.Owned v → u ≡ v
same_owner u v h = same_Some u v (ap owner_of h)

module _ (program : Program) (s : State) (t : ℕ) (thread : Thread) (action : Action) (there : thread_at s t ≡ Some thread) (at : action_at program thread.frame.point ≡ Some action) where
  stands : (other : Action) → action ≡ other → StandsAt program s t thread other
  stands other is = record { there = there; at = at ∙ ap (λ a. Some a) is }

  takes : (a : ℕ) (c : Cell) → (action ≡ does.Lock a) ⊎ (action ≡ does.Retake a) → places.part_of s (operand thread a) ≡ Some c → Takes program s t c
  takes a c (inl lock) leads = Takes.locks (stands (does.Lock a) lock) leads
  takes a c (inr retake) leads = Takes.retakes (stands (does.Retake a) retake) leads

  gives_back : (a : ℕ) (c : Cell) → (action ≡ does.Unlock a) ⊎ ((b : ℕ) × (action ≡ does.Release b a)) → places.part_of s (operand thread a) ≡ Some c → GivesBack program s t c
  gives_back a c (inl unlock) leads = GivesBack.unlocks (stands (does.Unlock a) unlock) leads
  gives_back a c (inr release) leads = GivesBack.releases (stands (does.Release release.0 a) release.1) leads

  makes : (a : ℕ) (c : Cell) → (action ≡ does.Init a) ⊎ (action ≡ does.Destroy a) → places.part_of s (operand thread a) ≡ Some c → Makes program s t c
  makes a c (inl init) leads = Makes.inits (stands (does.Init a) init) leads
  makes a c (inr destroy) leads = Makes.destroys (stands (does.Destroy a) destroy) leads

  -- who owned the mutex that is put gives it back
  was_owned : (c : Cell) (m : Mutex) (u : ℕ) → MutexPut program s t thread action c m → Owns program s u c → (u ≡ t) × GivesBack program s t c
  was_owned c m u (MutexPut.taken a is leads m_is free) owns = absurd (free_or_owned u (same_Some _ _ (sym free ∙ owns)))
  was_owned c m u (MutexPut.given a is leads m_is own) owns = (same_owner u t (same_Some _ _ (sym owns ∙ own)), gives_back a c is leads)
  was_owned c m u (MutexPut.made a is leads m_is unowned) owns = absurd (true≢false (unowned (mutex.Owned u) owns))
  was_owned c m u (MutexPut.filled writes m_is unowned) owns = absurd (true≢false (unowned (mutex.Owned u) owns))

  -- who owns the mutex that is put takes it
  is_owned_now : (c : Cell) (m : Mutex) (u : ℕ) → MutexPut program s t thread action c m → mutex.Owned u ≡ m → (u ≡ t) × Takes program s t c × (mutex_in program s c ≡ Some mutex.Free)
  is_owned_now c m u (MutexPut.taken a is leads m_is free) owned = (same_owner u t (owned ∙ m_is), takes a c is leads, free)
  is_owned_now c m u (MutexPut.given a is leads m_is own) owned = absurd (free_or_owned u (sym (owned ∙ m_is)))
  is_owned_now c m u (MutexPut.made a is leads m_is unowned) owned = absurd (true≢false (subst (λ x. is_taken (Some x) ≡ false) (sym owned) m_is))
  is_owned_now c m u (MutexPut.filled writes m_is unowned) owned = absurd (true≢false (subst (λ x. is_taken (Some x) ≡ false) (sym owned) m_is))

pub owners_kept : OwnersAreKept
owners_kept program s s2 t w step = subst (λ x. KeepsOwners program s t x) (sym step.is) (record { kept = kept; new = new })
  where
    a : Acts program s t w step.thread step.change
    a = acts program s t w step.thread step.change step.moves

    puts : (c : Cell) (m : Mutex) → effect_of step.change ≡ effect.PutMutex c m → MutexPut program s t step.thread a.action c m
    puts c m is = subst (MayDo program s t step.thread a.action) is (does_so program s t w step.thread step.change a)

    kept : (u : ℕ) (c : Cell) → Owns program s u c → Owns program (after_change program t s step.change) u c ⊎ ((u ≡ t) × GivesBack program s t c)
    kept u c owns = elim (change_kept (mutex_at program.types) IsMutex (mutex_reader program.types) program t s step.change c (there_by program s t c u (slice_get s.objects c.object) refl owns)) [
      | inl same ↦ inl (same ∙ owns)
      | inr item ↦ inr (was_owned program s t step.thread a.action step.may.there a.at c item.2.0 u (puts c item.2.0 (item.1 ∙ ap (putting c) item.2.1)) owns)
    ]

    new_there : (u : ℕ) (c : Cell) → IsThere s c → Owns program (after_change program t s step.change) u c → Owns program s u c ⊎ ((u ≡ t) × Takes program s t c × (mutex_in program s c ≡ Some mutex.Free))
    new_there u c there owns = elim (change_kept (mutex_at program.types) IsMutex (mutex_reader program.types) program t s step.change c there) [
      | inl same ↦ inl (sym same ∙ owns)
      | inr item ↦
          let is = item.1 ∙ ap (putting c) item.2.1 in
          inr (is_owned_now program s t step.thread a.action step.may.there a.at c item.2.0 u (puts c item.2.0 is) (put_owns program s t step.change c item.2.0 u is owns))
    ]

    new : (u : ℕ) (c : Cell) → Owns program (after_change program t s step.change) u c → Owns program s u c ⊎ ((u ≡ t) × Takes program s t c × (mutex_in program s c ≡ Some mutex.Free))
    new u c owns = elim (is_below c.object (length s.objects)) [
      | inl there ↦ new_there u c there owns
      | inr past ↦ absurd (new_unowned program t c u s step.change past owns)
    ]

-- ---- cells

module _ (program : Program) (s : State) (t : ℕ) (thread : Thread) (action : Action) (may : MayGoOn s t thread) (at : action_at program thread.frame.point ≡ Some action) where
  will_write : (c : Cell) → Writes program s t thread action c → WillWrite program s t c
  will_write c writes = rw may.there (rw may.not_ended (rw may.process (rw at writes)))

  puts_mutex : (c : Cell) (m : Mutex) → MutexPut program s t thread action c m → WillWrite program s t c ⊎ (Takes program s t c ⊎ (GivesBack program s t c ⊎ Makes program s t c))
  puts_mutex c m (MutexPut.taken a is leads m_is free) = inr (inl (takes program s t thread action may.there at a c is leads))
  puts_mutex c m (MutexPut.given a is leads m_is own) = inr (inr (inl (gives_back program s t thread action may.there at a c is leads)))
  puts_mutex c m (MutexPut.made a is leads m_is unowned) = inr (inr (inr (makes program s t thread action may.there at a c is leads)))
  puts_mutex c m (MutexPut.filled writes m_is unowned) = inl (will_write c writes)

pub cells_kept : OtherCellsAreKept
cells_kept program s s2 t w step = subst (λ x. KeepsCells program s t x) (sym step.is) (record { values = values; mutexes = mutexes; conditions = conditions })
  where
    a : Acts program s t w step.thread step.change
    a = acts program s t w step.thread step.change step.moves

    done : (e : Effect) → effect_of step.change ≡ e → MayDo program s t step.thread a.action e
    done e is = subst (MayDo program s t step.thread a.action) is (does_so program s t w step.thread step.change a)

    values : (c : Cell) → IsThere s c → (value_in program (after_change program t s step.change) c ≡ value_in program s c) ⊎ WillWrite program s t c
    values c there = elim (change_kept (value_at program.types) IsValue (value_reader program.types) program t s step.change c there) [
      | inl same ↦ inl same
      | inr item ↦ inr (will_write program s t step.thread a.action step.may a.at c (done (effect.PutValue c item.2.0) (item.1 ∙ ap (putting c) item.2.1)))
    ]

    mutexes : (c : Cell) → IsThere s c → (mutex_in program (after_change program t s step.change) c ≡ mutex_in program s c) ⊎ (WillWrite program s t c ⊎ (Takes program s t c ⊎ (GivesBack program s t c ⊎ Makes program s t c)))
    mutexes c there = elim (change_kept (mutex_at program.types) IsMutex (mutex_reader program.types) program t s step.change c there) [
      | inl same ↦ inl same
      | inr item ↦ inr (puts_mutex program s t step.thread a.action step.may a.at c item.2.0 (done (effect.PutMutex c item.2.0) (item.1 ∙ ap (putting c) item.2.1)))
    ]

    conditions : (c : Cell) → IsThere s c → (condition_in program (after_change program t s step.change) c ≡ condition_in program s c) ⊎ (WillWrite program s t c ⊎ Makes program s t c)
    conditions c there = elim (change_kept (condition_at program.types) IsCondition (condition_reader program.types) program t s step.change c there) [
      | inl same ↦ inl same
      | inr item ↦ elim (done (effect.PutCondition c item.2.0) (item.1 ∙ ap (putting c) item.2.1)) [
        | inl writes ↦ inr (inl (will_write program s t step.thread a.action step.may a.at c writes))
        | inr made ↦ inr (inr (makes program s t step.thread a.action step.may.there a.at made.0 c made.1 made.2))
      ]
    ]
