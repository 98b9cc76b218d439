-- A thread that performs an action: what holds of its frame, of its operands, and of where it goes.
use Rattle.std.proofs.Common.{◌≡◌, ℕ, suc, zero, true, List, [], ◌∷◌, ◌++◌, Option, Some, None, refl, sym, ap, subst, ◌∙◌, length, arith, length-append}
use Rattle.std.proofs.lemmas.Bool.{or_right}
use Rattle.std.proofs.lemmas.Bool.Decides.{nat_tests}
use Rattle.std.proofs.lemmas.Option.{none-some, same_Some}
use Rattle.std.specs.List.{slice_get}
use Rattle.std.specs.Option.{option_map_or}
use Rattle.std.specs.Prelude.{◌-◌, ◌==◌, ◌||◌, unwrap_or}
use Rattle.lk_cells.specs.Operands.{operand}
use Rattle.lk_cells.specs.declared.state.State.{State}
use Rattle.lk_cells.specs.declared.state.Thread.{Thread}
use Rattle.lk_change.specs.Changes.{change}
use Rattle.lk_change.specs.Going.{successor, goes, gives, changes, succeeds, stays_on, done}
use Rattle.lk_change.specs.declared.change.Change.{Change}
use Rattle.lk_change.specs.declared.change.Effect.{Effect}
use Rattle.lk_change.specs.declared.change.Effect.TheVariants as effect
use Rattle.lk_decide.specs.Undefined.{cause}
use Rattle.lk_facts.specs.EdgeRules.{value}
use Rattle.lk_facts.specs.Labels.{LabelTable}
use Rattle.lk_facts.specs.Live.IsReached.{next as reached_next}
use Rattle.lk_facts.specs.Program.{function_at, live_at, next_of}
use Rattle.lk_facts.specs.Typed.{IsTyped}
use Rattle.lk_facts.specs.declared.action.Action.{Action}
use Rattle.lk_facts.specs.declared.edge.Edge.{Edge}
use Rattle.lk_facts.specs.declared.program.Program.{Program}
use Rattle.lk_laws.proofs.RowEnds.{rows_give}
use Rattle.lk_laws.specs.RowLaws.{RowJoins}
use Rattle.lk_right.specs.Changes.{IsLiveIn, IsGivenRight, IsEffectRight, IsChangeRight}
use Rattle.lk_right.specs.Contexts.{Home, Contexts, frames_of, after_effect}
use Rattle.lk_right.specs.Laws.{IsAnalysed, Performs}
use Rattle.lk_right.specs.Right.{IsPointerRight, IsRight}
use Rattle.lk_right.specs.Sound.{IsFrameSound, AreFramesSound, IsSound, accessed_at}
use Rattle.lk_sets.specs.Ids.{has_id}
use Rattle.lk_values.proofs.Reasons.{mapped, chained}
use Rattle.lk_values.specs.declared.cell.Pointer.{Pointer as PointerTo}
use Rattle.lk_values.specs.declared.value.Value.{Value}

-- ---- lists

-- what a list has at a place is among its members
pub has_got : (ids : List ℕ) (k q : ℕ) → slice_get ids k ≡ Some q → has_id ids q ≡ true
has_got [] k q h = absurd (none-some q h)
has_got (x ∷ ids) zero q h = let is = same_Some x q h in let e : (x == q) ≡ true = grind (arith, nat_tests, is) in ap (λ b. b || has_id ids q) e
has_got (x ∷ ids) (suc k) q h = or_right (x == q) (has_id ids q) (has_got ids k q h)

pub get_last : {X : Type 0} → (xs : List X) (x : X) → slice_get (xs ++ x ∷ []) (length xs) ≡ Some x
get_last [] x = refl
get_last (y ∷ xs) x = get_last xs x

-- ---- where a point leads

module _ (program : Program) (labels : LabelTable) (es : List Edge) (ok : IsAnalysed program labels es) where
  -- a successor of a live point is a live point of the same function
  pub live_successor : (p f k q : ℕ) → function_at program p ≡ Some f → live_at program p ≡ true → successor program p k ≡ Some q → IsLiveIn program labels es f q
  live_successor p f k q stands live next =
      let is_next : has_id (next_of program p) q ≡ true = has_got (next_of program p) k q next in
      let point = mapped (λ point. point.function) (slice_get program.points p) f stands in
      record {
        stands = ok.lowered.successors p q is_next ∙ stands;
        live = (ok.lowered.live q).1 (reached_next p point.0 ((ok.lowered.live p).0 live) point.1 (subst (λ o. has_id (option_map_or (λ x. x.next) o []) q ≡ true) point.1 is_next));
      }

-- ---- a step

-- The thread t of a sound state stands at the action, in a frame of the function f and in the context c; its step is defined, and makes the
-- change.
pub record Acts (program : Program) (labels : LabelTable) (es : List Edge) (contexts : Contexts) (s : State) (t w f : ℕ) (thread : Thread) (cs : List (List ℕ)) (c : List ℕ) (action : Action) (ch : Change) : Type 0 where
  pub ok : IsAnalysed program labels es
  pub sound : IsSound program labels es contexts s
  pub performs : Performs program contexts s t thread f cs c action
  pub defined : cause program s t thread action ≡ None
  pub does : change program s t thread w action ≡ Some ch

module _ (program : Program) (labels : LabelTable) (es : List Edge) (contexts : Contexts) (s : State) (t w f : ℕ) (thread : Thread) (cs : List (List ℕ)) (c : List ℕ) (action : Action) (ch : Change)
    (acts : Acts program labels es contexts s t w f thread cs c action ch) where
  abbrev p : ℕ
  p = thread.frame.point

  -- what is to be shown of the change
  abbrev pub Right : Type 0
  Right = IsChangeRight program labels es contexts t thread f cs c ch

  -- the homes after an effect
  abbrev pub homes_of : Effect → List Home
  homes_of e = (after_effect program t p c contexts e).homes

  -- its frames are sound
  pub frames_sound : AreFramesSound program labels es contexts.homes (frames_of thread) cs
  frames_sound = acts.sound.threads t thread cs acts.performs.there acts.performs.in_contexts

  -- the last of its contexts is that of its frame
  pub own_at : slice_get cs (length thread.below) ≡ Some c
  own_at =
      let found = frames_sound.each (length thread.below) thread.frame (get_last thread.below thread.frame) in
      let many = frames_sound.many in
      let long = length-append thread.below (thread.frame ∷ []) in
      let last : length cs - 1 ≡ length thread.below = omega (arith, many, long) in
      found.in_context ∙ ap (λ d. Some d) (sym (acts.performs.in_context ∙ ap (λ k. unwrap_or (slice_get cs k) []) last ∙ ap (λ o. unwrap_or o []) found.in_context))

  -- its frame is sound in its context
  pub frame_sound : IsFrameSound program labels es contexts.homes f c thread.frame
  frame_sound =
      let found = frames_sound.each (length thread.below) thread.frame (get_last thread.below thread.frame) in
      let function = same_Some found.function f (sym found.sound.stands ∙ acts.performs.stands) in
      let context = same_Some found.context c (sym found.in_context ∙ own_at) in
      subst (λ g. IsFrameSound program labels es contexts.homes g c thread.frame) function (subst (λ d. IsFrameSound program labels es contexts.homes found.function d thread.frame) context found.sound)

  -- the value of an operand is right
  pub operand_right : (a : ℕ) (v : Value) → operand thread a ≡ Some v → IsRight program labels es contexts.homes v (value program a) c
  operand_right a v given = frame_sound.values a v given

  -- what its point takes and gives
  pub typed : IsTyped program p f action
  typed = acts.ok.lowered.typed p f action acts.performs.at acts.performs.stands

  -- what the row of the edges joins is there
  pub joins : RowJoins program p f action
  joins = (rows_give program acts.ok.table acts.ok.in_range acts.ok.lowered).rows p f action acts.performs.at acts.performs.stands

  -- a successor of its point is a live point of its function
  pub live_next : (k q : ℕ) → successor program p k ≡ Some q → IsLiveIn program labels es f q
  live_next k q next = live_successor program labels es acts.ok p f k q acts.performs.stands frame_sound.live next

  -- ---- what goes on to a successor

  pub goes_right : (k : ℕ) (v : Option Value) (e : Effect) → goes program p k v e ≡ Some ch → IsGivenRight program labels es (homes_of e) v p c → IsEffectRight program labels es (homes_of e) p f c e → Right
  goes_right k v e h given does =
      let q = mapped _ (successor program p k) ch h in
      subst (IsChangeRight program labels es contexts t thread f cs c) q.2 (given, live_next k q.0 q.1, does)

  -- what gives a value and changes nothing else
  pub gives_right : (v : Option Value) → gives program p v ≡ Some ch → ((x : Value) → v ≡ Some x → IsRight program labels es contexts.homes x (value program p) c) → Right
  gives_right v h right =
      let x = chained _ v ch h in
      goes_right 0 (Some x.0) effect.Nothing x.2 (right x.0 x.1) tt

  -- what changes something and gives no value
  pub changes_right : (o : Option Effect) → changes program p o ≡ Some ch → ((e : Effect) → o ≡ Some e → IsEffectRight program labels es (homes_of e) p f c e) → Right
  changes_right o h right =
      let e = chained _ o ch h in
      goes_right 0 None e.0 e.2 tt (right e.0 e.1)

  -- what changes something and gives 0
  pub succeeds_right : (o : Option Effect) → succeeds program p o ≡ Some ch → ((e : Effect) → o ≡ Some e → IsEffectRight program labels es (homes_of e) p f c e) → Right
  succeeds_right o h right =
      let e = chained _ o ch h in
      goes_right 0 (Some done) e.0 e.2 tt (right e.0 e.1)

  -- what stays and comes next to a cell
  pub stays_right : (at : PointerTo) (e : Effect) → stays_on at e ≡ Some ch → ((a : ℕ) → accessed_at program p ≡ Some a → IsPointerRight program labels es (homes_of e) at (value program a) c) →
      IsEffectRight program labels es (homes_of e) p f c e → Right
  stays_right at e h right does = subst (IsChangeRight program labels es contexts t thread f cs c) (same_Some _ ch h) (tt, right, does)
