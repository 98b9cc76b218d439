-- Threads that wait on a condition variable: they keep the mutex that they gave back, until they take it again.
use Rattle.std.proofs.Common.{◌≡◌, ℕ, Bool, true, false, List, [], ◌∷◌, ◌++◌, Option, None, Some, inl, inr, refl, sym, ap, subst, ◌∙◌}
use Rattle.std.proofs.lemmas.Bool.{eqb-true}
use Rattle.std.proofs.lemmas.Option.{same_Some}
use Rattle.std.specs.List.{slice_get}
use Rattle.std.specs.Map.{lookup}
use Rattle.std.specs.Option.{option_map_or, option_and_then}
use Rattle.std.specs.Prelude.{if◌then◌else◌, nat_eq}
use Rattle.lk_base.specs.declared.kind.Kind.{Kind}
use Rattle.lk_base.specs.declared.kind.Kind.TheVariants as kind
use Rattle.lk_birth.specs.Births.{changed_at}
use Rattle.lk_cells.specs.Frames.{given_by, with_given}
use Rattle.lk_cells.specs.Operands.{operand}
use Rattle.lk_cells.specs.Places as places
use Rattle.lk_cells.specs.declared.state.Frame.{Frame}
use Rattle.lk_cells.specs.declared.state.State.{State}
use Rattle.lk_cells.specs.declared.state.Thread.{Thread}
use Rattle.lk_change.specs.Calls.{caller_of}
use Rattle.lk_change.specs.Changes.{change}
use Rattle.lk_change.specs.Going as going
use Rattle.lk_change.specs.Locks.{mutex_made}
use Rattle.lk_change.specs.declared.change.Change.{Change}
use Rattle.lk_change.specs.declared.change.Change.TheVariants.{Goes, Enter, Leave, EndThread, EndProcess}
use Rattle.lk_change.specs.declared.change.Effect.{Effect}
use Rattle.lk_change.specs.declared.change.Effect.TheVariants as effect
use Rattle.lk_change.specs.declared.change.Turn.TheVariants as turn
use Rattle.lk_facts.specs.Basis.{Basis}
use Rattle.lk_facts.specs.Program.{action_at, value_type_at, next_of}
use Rattle.lk_facts.specs.Typed.{IsForm, GivesForm, PointsToForm}
use Rattle.lk_facts.specs.declared.action.Action.{Action}
use Rattle.lk_facts.specs.declared.action.Action.TheVariants as does
use Rattle.lk_facts.specs.declared.edge.Edge.{Edge}
use Rattle.lk_facts.specs.declared.program.Program.{Program}
use Rattle.lk_meaning.proofs.Reading.{is_same}
use Rattle.lk_meaning.specs.After.{after_change, after_effect, gone_to, moved_on, left, thread_ended, process_ended}
use Rattle.lk_meaning.specs.Laws.{Owns}
use Rattle.lk_right.proofs.Accessing.{part_leads}
use Rattle.lk_right.proofs.Doing.{Acts, has_got}
use Rattle.lk_right.specs.Contexts.{Contexts}
use Rattle.lk_safe.proofs.Performing.{goes_to, changes_goes, succeeds_goes, puts_mutex}
use Rattle.lk_safe.proofs.Taking.{owned_after_put}
use Rattle.lk_safe.specs.Owners.{WaitsFor}
use Rattle.lk_sound.proofs.Elements.{left_there, changed_here, changed_other}
use Rattle.lk_types.specs.declared.c_type.CType.TheVariants.{Int, Mutex, Pointer as PointerType}
use Rattle.lk_values.proofs.Reasons.{chained}
use Rattle.lk_values.specs.declared.cell.Cell.{Cell}
use Rattle.lk_values.specs.declared.cell.Pointer.{Pointer as PointerTo}
use Rattle.lk_values.specs.declared.value.Mutex.TheVariants as mutex
use Rattle.lk_values.specs.declared.value.Value.{Value}
use Rattle.lk_values.specs.declared.value.Value.TheVariants.{Pointer}

-- ---- the frames of other threads

-- the thread of the number is there, with the frame
abbrev pub HasFrame : List Thread → ℕ → Frame → Type 0
HasFrame threads u frame = (x : Thread) × (slice_get threads u ≡ Some x) × (x.frame ≡ frame)

-- a thread keeps its frame where another one changes, where what changes isn't its frame, and where threads come
other_changes : (threads : List Thread) (i u : ℕ) (f : Thread → Thread) (frame : Frame) → (u ≡ i → ⊥) → HasFrame threads u frame → HasFrame (changed_at threads i f) u frame
other_changes threads i u f frame other has = (has.0, changed_other threads i u f other ∙ has.1, has.2)

one_changes : (threads : List Thread) (i u : ℕ) (f : Thread → Thread) (frame : Frame) → ((x : Thread) → (f x).frame ≡ x.frame) → HasFrame threads u frame → HasFrame (changed_at threads i f) u frame
one_changes threads i u f frame same has = elim (is_same u i) [
  | inl equal ↦ (
    f has.0,
    subst (λ k. slice_get (changed_at threads i f) k ≡ Some (f has.0)) (sym equal) (changed_here threads i f has.0 (subst
        (λ k. slice_get threads k ≡ Some has.0) equal has.1)),
    same has.0 ∙ has.2,
  )
  | inr other ↦ other_changes threads i u f frame other has
]

more_come : (threads more : List Thread) (u : ℕ) (frame : Frame) → HasFrame threads u frame → HasFrame (threads ++ more) u frame
more_come threads more u frame has = (has.0, left_there threads more u has.0 has.1, has.2)

module _ (program : Program) (t u : ℕ) (frame : Frame) (other : u ≡ t → ⊥) where
  effect_keeps : (s : State) (e : Effect) → HasFrame s.threads u frame → HasFrame (after_effect program t s e).threads u frame
  effect_keeps s effect.Nothing has = has
  effect_keeps s (effect.PutSlot slot v) has = other_changes s.threads t u _ frame other has
  effect_keeps s (effect.PutValue c v) has = has
  effect_keeps s (effect.PutMutex c m) has = has
  effect_keeps s (effect.PutCondition c k) has = has
  effect_keeps s (effect.Begin call) has = more_come _ _ u frame (other_changes s.threads t u _ frame other has)
  effect_keeps s (effect.Join v) has = one_changes s.threads v u _ frame (λ x. refl) has
  effect_keeps s (effect.Detach v) has = one_changes s.threads v u _ frame (λ x. refl) has
  effect_keeps s (effect.Bear birth) has = has
  effect_keeps s (effect.End o) has = has

  left_keeps : (s : State) (v : Option Value) (q : ℕ) (thread : Thread) (caller : Option Frame) → HasFrame s.threads u frame → HasFrame (option_map_or (left t s v q thread) caller s).threads u frame
  left_keeps s v q thread None has = has
  left_keeps s v q thread (Some caller) has = other_changes s.threads t u _ frame other has

  leaving_keeps : (s : State) (v : Option Value) (q : ℕ) (found : Option Thread) → HasFrame s.threads u frame →
      HasFrame (option_map_or (λ thread. option_map_or (left t s v q thread) (caller_of thread) s) found s).threads u frame
  leaving_keeps s v q None has = has
  leaving_keeps s v q (Some thread) has = left_keeps s v q thread (caller_of thread) has

  ending_keeps : (s : State) (found : Option Thread) → HasFrame s.threads u frame → HasFrame (option_map_or (thread_ended t s) found s).threads u frame
  ending_keeps s None has = has
  ending_keeps s (Some thread) has = other_changes s.threads t u _ frame other has

  ended_keeps : (s : State) (found : Option Thread) → HasFrame s.threads u frame → HasFrame (option_map_or (process_ended t s) found s).threads u frame
  ended_keeps s None has = has
  ended_keeps s (Some thread) has = has

  -- a step of t keeps the frame of any other thread
  pub frame_kept : (s : State) (made : Change) → HasFrame s.threads u frame → HasFrame (after_change program t s made).threads u frame
  frame_kept s (Goes gone) has = effect_keeps (gone_to s t gone.gives gone.turn) gone.effect (other_changes s.threads t u _ frame other has)
  frame_kept s (Enter call) has = other_changes s.threads t u _ frame other has
  frame_kept s (Leave v q) has = leaving_keeps s v q (slice_get s.threads t) has
  frame_kept s EndThread has = ending_keeps s (slice_get s.threads t) has
  frame_kept s EndProcess has = ended_keeps s (slice_get s.threads t) has

-- so another thread that waits for a mutex waits for it after the step
pub waits_on : (basis : Basis) (s : State) (t u : ℕ) (made : Change) (cell : Cell) → (u ≡ t → ⊥) → WaitsFor basis s u cell → WaitsFor basis (after_change basis.program t s made) u cell
waits_on basis s t u made cell other waits =
    let kept = frame_kept basis.program t u waits.thread.frame other s made (waits.thread, waits.stands.there, refl) in
    record {
      thread = kept.0;
      operand_ = waits.operand_;
      stands = record { there = kept.1; at = subst (λ (x : Frame). action_at basis.program x.point ≡ Some (does.Retake waits.operand_)) (sym kept.2) waits.stands.at };
      at = waits.at;
      points = subst (λ (x : Frame). given_by x waits.operand_ ≡ Some (Pointer waits.at)) (sym kept.2) waits.points;
      to = waits.to;
    }

-- ---- what a point gave

-- A table into which something is put by a key: it goes to the place of the same key, or else to the end. What is found by another key is as it was.
module _ {V : Type 0} (put : List (ℕ × V) → ℕ → V → List (ℕ × V)) (to_none : (k : ℕ) (v : V) → put [] k v ≡ (k, v) ∷ [])
    (to_some : (e : ℕ × V) (es : List (ℕ × V)) (k : ℕ) (v : V) → put (e ∷ es) k v ≡ (if nat_eq k e.0 then (e.0, v) ∷ es else e ∷ put es k v)) where
  found_other : (es : List (ℕ × V)) (k q : ℕ) (v : V) → (q ≡ k → ⊥) → lookup (nat_eq q) (put es k v) ≡ lookup (nat_eq q) es
  found_other [] k q v other = ap (λ es. lookup (nat_eq q) es) (to_none k v) ∙ by (nat_eq q k) refl
    where
      by : (b : Bool) → nat_eq q k ≡ b → (if b then Some v else None) ≡ None
      by true h = absurd (other (eqb-true q k h))
      by false h = refl
  found_other (e ∷ es) k q v other = ap (λ es. lookup (nat_eq q) es) (to_some e es k v) ∙ by_key (nat_eq k e.0) refl (found_other es k q v other)
    where
      by_name : (b : Bool) → nat_eq q e.0 ≡ b → nat_eq k e.0 ≡ true → (if b then Some v else lookup (nat_eq q) es) ≡ (if b then Some e.1 else lookup (nat_eq q) es)
      by_name true h found = absurd (other (eqb-true q e.0 h ∙ sym (eqb-true k e.0 found)))
      by_name false h found = refl

      by_key : (b : Bool) → nat_eq k e.0 ≡ b → lookup (nat_eq q) (put es k v) ≡ lookup (nat_eq q) es → lookup (nat_eq q) (if b then (e.0, v) ∷ es else e ∷ put es k v) ≡ lookup (nat_eq q) (e ∷ es)
      by_key true found rest = by_name (nat_eq q e.0) refl found
      by_key false found rest = ap (λ o. if nat_eq q e.0 then Some e.1 else o) rest

-- so the value of another point is as it was
given_other : (frame : Frame) (p q : ℕ) (v : Option Value) → (q ≡ p → ⊥) → given_by (with_given frame p v) q ≡ given_by frame q
given_other frame p q v other = ap (λ o. option_and_then (λ (given : Option Value). given) o) (found_other put (λ k o. refl) (λ e es k o. refl) frame.values p q v other)
  where
    put : List (ℕ × Option Value) → ℕ → Option Value → List (ℕ × Option Value)
    put es k o = (with_given (record frame { values = es }) k o).values

-- ---- the thread that waits

no_number : (t : ℕ) (k : Kind) → Some (PointerType t) ≡ Some (Int k) → ⊥
no_number t k h = cc

-- a point that gives a number is none that gives a pointer to a mutex
other_point : (program : Program) (a p : ℕ) → PointsToForm program a Mutex → GivesForm program p (Int kind.Int) → a ≡ p → ⊥
other_point program a p pointer number same =
    let types : pointer.1.0 ≡ number.0 = same_Some pointer.1.0 number.0 (sym (subst (λ x. value_type_at program x ≡ Some pointer.1.0) same pointer.1.1) ∙ number.1) in
    no_number pointer.0 kind.Int (sym (subst (λ x. IsForm program.types x (PointerType pointer.0)) types pointer.1.2) ∙ number.2)

module _ (basis : Basis) (es : List Edge) (contexts : Contexts) (s : State) (t w f : ℕ) (thread : Thread) (cs : List (List ℕ)) (c : List ℕ) (action : Action) (made : Change)
    (acts : Acts basis.program basis.labels es contexts s t w f thread cs c action made) where
  abbrev program : Program
  program = basis.program

  abbrev p : ℕ
  p = thread.frame.point

  -- what the step does, by an action of its point
  pub does_so : (other : Action) → action_at program p ≡ Some other → change program s t thread w other ≡ Some made
  does_so other at = subst (λ x. change program s t thread w x ≡ Some made) (same_Some action other (sym acts.performs.at ∙ at)) acts.does

  -- a thread of the number t is this one
  pub is_thread : (x : Thread) → slice_get s.threads t ≡ Some x → x ≡ thread
  is_thread x there = same_Some x thread (sym there ∙ acts.performs.there)

  -- who gives a mutex back to wait on a condition variable waits for it
  pub released : (b a : ℕ) (cell : Cell) → action_at program p ≡ Some (does.Release b a) → places.part_of s (operand thread a) ≡ Some cell → WaitsFor basis (after_change program t s made) t cell
  released b a cell at leads =
      let ready = chained (λ k. going.succeeds program p (mutex_made program s (operand thread a) mutex.Free)) (places.condition_through program.types s (operand thread b)) made (does_so
      (does.Release b a) at) in
      let goes = succeeds_goes program p (mutex_made program s (operand thread a) mutex.Free) made ready.2 in
      let puts = puts_mutex program s (operand thread a) mutex.Free goes.e goes.has in
      subst (λ x. WaitsFor basis (after_change program t s x) t cell) (ap (λ e. goes_to (Some going.done) goes.to e) puts.is ∙ goes.is) (waiting goes.to puts.cell goes.next)
    where
      waiting : (q : ℕ) (d : Cell) → going.successor program p 0 ≡ Some q → WaitsFor basis (after_change program t s (goes_to (Some going.done) q (effect.PutMutex d mutex.Free))) t cell
      waiting q d next =
          let pointer = part_leads s (operand thread a) cell leads in
          let typed = acts.ok.lowered.typed p f (does.Release b a) at acts.performs.stands in
          let gone = moved_on (Some going.done) (turn.To q) in
          record {
            thread = gone thread;
            operand_ = a;
            stands = record { there = changed_here s.threads t gone thread acts.performs.there; at = acts.ok.lowered.waits p q b a at (has_got (next_of program p) 0 q next) };
            at = pointer.pointer;
            points = given_other thread.frame p a (Some going.done) (other_point program a p typed.1 typed.2) ∙ pointer.points;
            to = pointer.to;
          }

  -- who takes a mutex again owns it then
  pub retaken : (cell : Cell) → WaitsFor basis s t cell → Owns program (after_change program t s made) t cell
  retaken cell waits =
      let same = is_thread waits.thread waits.stands.there in
      let at : action_at program p ≡ Some (does.Retake waits.operand_) = subst (λ (x : Thread). action_at program x.frame.point ≡ Some (does.Retake waits.operand_)) same waits.stands.at in
      let points : operand thread waits.operand_ ≡ Some (Pointer waits.at) = subst (λ x. operand x waits.operand_ ≡ Some (Pointer waits.at)) same waits.points in
      let goes = changes_goes program p (mutex_made program s (operand thread waits.operand_) (mutex.Owned t)) made (does_so (does.Retake waits.operand_) at) in
      let puts = puts_mutex program s (operand thread waits.operand_) (mutex.Owned t) goes.e goes.has in
      let pointer = part_leads s (operand thread waits.operand_) puts.cell puts.leads in
      let cells : puts.cell ≡ cell = sym pointer.to ∙ (ap (λ (x : PointerTo). x.part) (one_pointer pointer.pointer waits.at (sym pointer.points ∙ points)) ∙ waits.to) in
      subst (λ d. Owns program (after_change program t s made) t d) cells
      (subst (λ x. Owns program (after_change program t s x) t puts.cell) (ap (λ e. goes_to None goes.to e) puts.is ∙ goes.is)
      (owned_after_put program s t t None goes.to puts.cell puts.found puts.there))
    where
      one_pointer : (x y : PointerTo) → Some (Pointer x) ≡ Some (Pointer y) → x ≡ y
      one_pointer x y h = cc
