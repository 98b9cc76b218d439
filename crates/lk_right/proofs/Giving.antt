-- Steps that give no pointer, or one that stays as it is: constants, operators, slots and conversions; ways; threads that are joined and end; mutexes
-- and condition variables; the end of an object. What each changes is right.
use Rattle.std.proofs.Common.{◌≡◌, ℕ, Bool, true, false, List, Option, Some, None, refl, ap, subst, ◌∙◌}
use Rattle.std.proofs.lemmas.Option.{none-some, same_Some}
use Rattle.std.specs.List.{slice_get}
use Rattle.std.specs.Option.{option_and_then, option_map}
use Rattle.std.specs.Prelude.{ℤ, if◌then◌else◌, map}
use Rattle.lk_arith.specs.declared.operators.Op.{Op}
use Rattle.lk_arith.specs.declared.operators.UnaryOp.{UnaryOp}
use Rattle.lk_cells.specs.Cells.{number_of_type}
use Rattle.lk_cells.specs.Computing.{unary_of, binary}
use Rattle.lk_cells.specs.Converting.{converted_to}
use Rattle.lk_cells.specs.Operands.{operand, number_in, condition_in}
use Rattle.lk_cells.specs.Parts.{form_of}
use Rattle.lk_cells.specs.Places as places
use Rattle.lk_cells.specs.Places.{moved_by}
use Rattle.lk_cells.specs.declared.kind.CellKind.{CellKind}
use Rattle.lk_cells.specs.declared.kind.CellKind.TheVariants as cell
use Rattle.lk_cells.specs.declared.state.State.{State}
use Rattle.lk_cells.specs.declared.state.Thread.{Thread}
use Rattle.lk_change.specs.Births.{frees}
use Rattle.lk_change.specs.Calls.{case_of}
use Rattle.lk_change.specs.Going.{goes, gives, changes, succeeds}
use Rattle.lk_change.specs.Locks.{mutex_made, made_ready, made_unready}
use Rattle.lk_change.specs.Numbers.{value_of, unary_value, binary_value, converted_value, by_word, ids_equal}
use Rattle.lk_change.specs.Threads.{thread_in}
use Rattle.lk_change.specs.declared.change.Change.{Change}
use Rattle.lk_change.specs.declared.change.Change.TheVariants.{EndThread, EndProcess}
use Rattle.lk_change.specs.declared.change.Effect.{Effect}
use Rattle.lk_change.specs.declared.change.Effect.TheVariants as effect
use Rattle.lk_facts.specs.EdgeRules.{value, slot}
use Rattle.lk_facts.specs.EdgeRules.IsEdge.{row}
use Rattle.lk_facts.specs.Labels.{LabelTable}
use Rattle.lk_facts.specs.Program.{value_type_at}
use Rattle.lk_facts.specs.declared.action.Action.{Action}
use Rattle.lk_facts.specs.declared.action.Action.TheVariants as does
use Rattle.lk_facts.specs.declared.edge.Edge.{Edge}
use Rattle.lk_facts.specs.declared.edge.Mark.TheVariants.{Plain}
use Rattle.lk_facts.specs.declared.program.Program.{Program}
use Rattle.lk_laws.specs.RowLaws.{HasPointer, RowJoins}
use Rattle.lk_right.proofs.Carrying.{carried}
use Rattle.lk_right.proofs.Carrying.Crosses.{stays}
use Rattle.lk_right.proofs.Converting.{converted_right}
use Rattle.lk_right.proofs.Doing.{Acts, frame_sound, operand_right, joins, goes_right, gives_right, changes_right, succeeds_right}
use Rattle.lk_right.proofs.Plain.{IsPlain, plain_right, value_plain, unary_plain, Gives, binary_gives, by_word_plain, ids_equal_plain}
use Rattle.lk_right.proofs.Plain.Gives.{no_pointer, moving}
use Rattle.lk_right.specs.Changes.{IsGivenRight, IsEffectRight, IsChangeRight}
use Rattle.lk_right.specs.Contexts.{Contexts, after_effect}
use Rattle.lk_right.specs.Right.{IsPointerRight, IsRight}
use Rattle.lk_right.specs.Sound.{IsFrameSound}
use Rattle.lk_values.proofs.Reasons.{mapped, chained}
use Rattle.lk_values.specs.declared.cell.Cell.{Cell}
use Rattle.lk_values.specs.declared.cell.Pointer.{Pointer as PointerTo}
use Rattle.lk_values.specs.declared.value.Condition.TheVariants as condition
use Rattle.lk_values.specs.declared.value.Mutex.{Mutex}
use Rattle.lk_values.specs.declared.value.Mutex.TheVariants as mutex
use Rattle.lk_values.specs.declared.value.Value.{Value}
use Rattle.lk_values.specs.declared.value.Value.TheVariants.{Number, Pointer, Function, Null, Thread as Id, Indeterminate}

-- The thread t of a state performs an action in its frame of the function f, and in the context c; its step makes the change.
module _ (program : Program) (labels : LabelTable) (es : List Edge) (contexts : Contexts) (s : State) (t w f : ℕ) (thread : Thread) (cs : List (List ℕ)) (c : List ℕ) (ch : Change) where
  abbrev p : ℕ
  p = thread.frame.point

  -- it performs the action
  abbrev Doing : Action → Type 0
  Doing action = Acts program labels es contexts s t w f thread cs c action ch

  abbrev Right : Type 0
  Right = IsChangeRight program labels es contexts t thread f cs c ch

  -- right for what its point gives
  abbrev GivenRight : Value → Type 0
  GivenRight v = IsRight program labels es contexts.homes v (value program p) c

  abbrev EffectRight : Effect → Type 0
  EffectRight e = IsEffectRight program labels es (after_effect program t p c contexts e).homes p f c e

  module _ (action : Action) (acts : Doing action) where
    goes_on : (k : ℕ) → goes program p k None effect.Nothing ≡ Some ch → Right
    goes_on k h = goes_right program labels es contexts s t w f thread cs c action ch acts k None effect.Nothing h tt tt

    gives_what : (v : Option Value) → gives program p v ≡ Some ch → ((x : Value) → v ≡ Some x → GivenRight x) → Right
    gives_what v h right = gives_right program labels es contexts s t w f thread cs c action ch acts v h right

    gives_plain : (v : Option Value) → gives program p v ≡ Some ch → ((x : Value) → v ≡ Some x → IsPlain x) → Right
    gives_plain v h plain = gives_what v h (λ x is. plain_right program labels es contexts.homes (value program p) c x (plain x is))

    changes_what : (o : Option Effect) → changes program p o ≡ Some ch → ((e : Effect) → o ≡ Some e → EffectRight e) → Right
    changes_what o h right = changes_right program labels es contexts s t w f thread cs c action ch acts o h right

    succeeds_with : (o : Option Effect) → succeeds program p o ≡ Some ch → ((e : Effect) → o ≡ Some e → EffectRight e) → Right
    succeeds_with o h right = succeeds_right program labels es contexts s t w f thread cs c action ch acts o h right

    operand_is : (a : ℕ) (v : Value) → operand thread a ≡ Some v → IsRight program labels es contexts.homes v (value program a) c
    operand_is a v given = operand_right program labels es contexts s t w f thread cs c action ch acts a v given

  nothing_right : (e : Effect) → Some effect.Nothing ≡ Some e → EffectRight e
  nothing_right e h = subst EffectRight (same_Some effect.Nothing e h) tt

  -- ---- numbers, null and ids

  pub value_right : (number : ℤ) (ty : ℕ) → Doing (does.Value number ty) → Right
  value_right number ty acts = gives_plain (does.Value number ty) acts (option_and_then (λ form. number_of_type form number) (form_of program.types ty)) acts.does by
    where
      by : (v : Value) → option_and_then (λ form. number_of_type form number) (form_of program.types ty) ≡ Some v → IsPlain v
      by v is = let form = chained (λ form. number_of_type form number) (form_of program.types ty) v is in value_plain form.0 number v form.2

  pub null_right : (ty : ℕ) → Doing (does.Null ty) → Right
  null_right ty acts = gives_plain (does.Null ty) acts (Some Null) acts.does (λ v is. subst IsPlain (same_Some Null v is) tt)

  pub self_right : Doing does.SelfId → Right
  self_right acts = gives_plain does.SelfId acts (Some (Id (Some t))) acts.does (λ v is. subst IsPlain (same_Some (Id (Some t)) v is) tt)

  pub unary_right : (o : UnaryOp) (a : ℕ) → Doing (does.Unary o a) → Right
  unary_right o a acts = gives_plain (does.Unary o a) acts (unary_value o (operand thread a)) acts.does by
    where
      by : (v : Value) → unary_value o (operand thread a) ≡ Some v → IsPlain v
      by v is = let x = chained (λ x. value_of (unary_of o x)) (operand thread a) v is in unary_plain o x.0 v x.2

  -- each pointer that a binary operator moves is right where it comes to
  abbrev pub MovedRight : Op → (a b : ℕ) → Type 0
  MovedRight o a b =
      (at next : PointerTo) (n : ℤ) → operand thread a ≡ Some (Pointer at) → moved_by program.types s at n ≡ Some next → HasPointer program (value program p) → IsPointerRight program labels es contexts.homes next (value program p) c

  abbrev computed : Op → (a b : ℕ) → Option Value
  computed o a b = binary_value program s o (operand thread a) (operand thread b)

  pub binary_right : (o : Op) (a b : ℕ) → Doing (does.Binary o a b) → MovedRight o a b → Right
  binary_right o a b acts moved = gives_what (does.Binary o a b) acts (computed o a b) acts.does by
    where
      of : (x y v : Value) → operand thread a ≡ Some x → computed o a b ≡ Some v → Gives program.types s x y v → GivenRight v
      of x y v x_is is (no_pointer h) = plain_right program labels es contexts.homes (value program p) c v h
      of x y v x_is is (moving at next n at_is leads next_is) =
          let own : GivenRight (Pointer next) = λ has. moved at next n (x_is ∙ ap Some at_is) leads has in
          subst GivenRight next_is own

      by : (v : Value) → computed o a b ≡ Some v → GivenRight v
      by v is =
          let x = chained (λ x. option_and_then (λ y. value_of (binary program.types s o x y)) (operand thread b)) (operand thread a) v is in
          let y = chained (λ y. value_of (binary program.types s o x.0 y)) (operand thread b) v x.2 in
          of x.0 y.0 v x.1 is (binary_gives program.types s o x.0 y.0 v y.2)

  pub compute_right : (args : List ℕ) (ty : ℕ) (equal : Bool) → Doing (does.Compute args ty equal) → Right
  compute_right args ty true acts = gives_plain (does.Compute args ty true) acts (ids_equal (map (operand thread) args)) acts.does (ids_equal_plain (map (operand thread) args))
  compute_right args ty false acts = goes_right program labels es contexts s t w f thread cs c (does.Compute args ty false) ch acts 0 (by_word program w (Some ty)) effect.Nothing acts.does (by (by_word program w (Some ty)) refl) tt
    where
      by : (o : Option Value) → by_word program w (Some ty) ≡ o → IsGivenRight program labels es contexts.homes o p c
      by None is = tt
      by (Some v) is = plain_right program labels es contexts.homes (value program p) c v (by_word_plain program w (Some ty) v is)

  -- ---- slots

  pub slot_read_right : (k : ℕ) → Doing (does.SlotRead k) → Right
  slot_read_right k acts = gives_what (does.SlotRead k) acts (slice_get thread.frame.slots k) acts.does by
    where
      own : IsFrameSound program labels es contexts.homes f c thread.frame
      own = frame_sound program labels es contexts s t w f thread cs c (does.SlotRead k) ch acts

      ends : RowJoins program p f (does.SlotRead k)
      ends = joins program labels es contexts s t w f thread cs c (does.SlotRead k) ch acts

      by : (v : Value) → slice_get thread.frame.slots k ≡ Some v → GivenRight v
      by v is =
          carried program labels es acts.ok Plain (slot program f k) (value program p) (λ x y at there. row p f (does.SlotRead k) acts.performs.at acts.performs.stands (refl, at, there)) ends contexts.homes stays v (own.slots k v is)

  pub slot_write_right : (k a : ℕ) → Doing (does.SlotWrite k a) → Right
  slot_write_right k a acts = changes_what (does.SlotWrite k a) acts (option_map (effect.PutSlot k) (operand thread a)) acts.does by
    where
      ends : RowJoins program p f (does.SlotWrite k a)
      ends = joins program labels es contexts s t w f thread cs c (does.SlotWrite k a) ch acts

      put : (v : Value) → operand thread a ≡ Some v → EffectRight (effect.PutSlot k v)
      put v is =
          carried program labels es acts.ok Plain (value program a) (slot program f k) (λ x y at there. row p f (does.SlotWrite k a) acts.performs.at acts.performs.stands (refl, at, there)) ends contexts.homes stays v
          (operand_is (does.SlotWrite k a) acts a v is)

      by : (e : Effect) → option_map (effect.PutSlot k) (operand thread a) ≡ Some e → EffectRight e
      by e is = let v = mapped (effect.PutSlot k) (operand thread a) e is in subst EffectRight v.2 (put v.0 v.1)

  -- ---- conversions

  pub convert_right : (a to : ℕ) → Doing (does.Convert a to) → Right
  convert_right a to acts = gives_what (does.Convert a to) acts (converted_value program s a to (operand thread a)) acts.does by
    where
      by : (v : Value) → converted_value program s a to (operand thread a) ≡ Some v → GivenRight v
      by v is =
          let x = chained (λ x. value_of (converted_to program.types s (value_type_at program a) to x)) (operand thread a) v is in
          converted_right program labels es acts.ok contexts s acts.sound p f a to c acts.performs.stands acts.performs.at x.0 v (operand_is (does.Convert a to) acts a x.0 x.1) x.2

  -- ---- ways

  pub branch_right : (a : ℕ) → Doing (does.Branch a) → Right
  branch_right a acts =
      let holds = chained (λ holds. goes program p (if holds then 0 else 1) None effect.Nothing) (condition_in (operand thread a)) ch acts.does in
      goes_on (does.Branch a) acts (if holds.0 then 0 else 1) holds.2

  pub switch_right : (a : ℕ) (cases : List ℤ) → Doing (does.Switch a cases) → Right
  switch_right a cases acts =
      let n = chained (λ n. goes program p (case_of n cases) None effect.Nothing) (number_in (operand thread a)) ch acts.does in
      goes_on (does.Switch a cases) acts (case_of n.0 cases) n.2

  pub skip_right : Doing does.Skip → Right
  skip_right acts = goes_on does.Skip acts 0 acts.does

  pub exit_thread_right : Doing does.ExitThread → Right
  exit_thread_right acts = subst (IsChangeRight program labels es contexts t thread f cs c) (same_Some EndThread ch acts.does) tt

  pub exit_process_right : Doing does.ExitProcess → Right
  exit_process_right acts = subst (IsChangeRight program labels es contexts t thread f cs c) (same_Some EndProcess ch acts.does) tt

  -- ---- threads

  pub join_right : (a : ℕ) → Doing (does.Join a) → Right
  join_right a acts = succeeds_with (does.Join a) acts (option_map effect.Join (thread_in (operand thread a))) acts.does by
    where
      by : (e : Effect) → option_map effect.Join (thread_in (operand thread a)) ≡ Some e → EffectRight e
      by e is = let u = mapped effect.Join (thread_in (operand thread a)) e is in subst EffectRight u.2 tt

  pub detach_right : (a : ℕ) → Doing (does.Detach a) → Right
  detach_right a acts = succeeds_with (does.Detach a) acts (option_map effect.Detach (thread_in (operand thread a))) acts.does by
    where
      by : (e : Effect) → option_map effect.Detach (thread_in (operand thread a)) ≡ Some e → EffectRight e
      by e is = let u = mapped effect.Detach (thread_in (operand thread a)) e is in subst EffectRight u.2 tt

  -- ---- mutexes and condition variables

  mutex_right : (v : Option Value) (m : Mutex) (e : Effect) → mutex_made program s v m ≡ Some e → EffectRight e
  mutex_right v m e h =
      let found = chained (λ found. option_map (λ at. effect.PutMutex at m) (places.part_of s v)) (places.mutex_through program.types s v) e h in
      let put = mapped (λ at. effect.PutMutex at m) (places.part_of s v) e found.2 in
      subst EffectRight put.2 tt

  pub lock_right : (a : ℕ) → Doing (does.Lock a) → Right
  lock_right a acts = succeeds_with (does.Lock a) acts (mutex_made program s (operand thread a) (mutex.Owned t)) acts.does (mutex_right (operand thread a) (mutex.Owned t))

  pub unlock_right : (a : ℕ) → Doing (does.Unlock a) → Right
  unlock_right a acts = succeeds_with (does.Unlock a) acts (mutex_made program s (operand thread a) mutex.Free) acts.does (mutex_right (operand thread a) mutex.Free)

  pub retake_right : (a : ℕ) → Doing (does.Retake a) → Right
  retake_right a acts = changes_what (does.Retake a) acts (mutex_made program s (operand thread a) (mutex.Owned t)) acts.does (mutex_right (operand thread a) (mutex.Owned t))

  pub release_right : (a b : ℕ) → Doing (does.Release a b) → Right
  release_right a b acts =
      let there = chained (λ k. succeeds program p (mutex_made program s (operand thread b) mutex.Free)) (places.condition_through program.types s (operand thread a)) ch acts.does in
      succeeds_with (does.Release a b) acts (mutex_made program s (operand thread b) mutex.Free) there.2 (mutex_right (operand thread b) mutex.Free)

  pub signal_right : (a : ℕ) → Doing (does.Signal a) → Right
  signal_right a acts =
      let there = chained (λ k. succeeds program p (Some effect.Nothing)) (places.condition_through program.types s (operand thread a)) ch acts.does in
      succeeds_with (does.Signal a) acts (Some effect.Nothing) there.2 nothing_right

  -- what is made ready or not ready, of each kind
  abbrev ready_of : Cell → CellKind → Option Effect
  ready_of at cell.Value = None
  ready_of at cell.Mutex = Some (effect.PutMutex at mutex.Free)
  ready_of at cell.Condition = Some (effect.PutCondition at condition.Ready)

  abbrev unready_of : Cell → CellKind → Option Effect
  unready_of at cell.Value = None
  unready_of at cell.Mutex = Some (effect.PutMutex at mutex.NotReady)
  unready_of at cell.Condition = Some (effect.PutCondition at condition.NotReady)

  ready_right : (at : Cell) (k : CellKind) (e : Effect) → ready_of at k ≡ Some e → EffectRight e
  ready_right at cell.Value e is = absurd (none-some e is)
  ready_right at cell.Mutex e is = subst EffectRight (same_Some (effect.PutMutex at mutex.Free) e is) tt
  ready_right at cell.Condition e is = subst EffectRight (same_Some (effect.PutCondition at condition.Ready) e is) tt

  unready_right : (at : Cell) (k : CellKind) (e : Effect) → unready_of at k ≡ Some e → EffectRight e
  unready_right at cell.Value e is = absurd (none-some e is)
  unready_right at cell.Mutex e is = subst EffectRight (same_Some (effect.PutMutex at mutex.NotReady) e is) tt
  unready_right at cell.Condition e is = subst EffectRight (same_Some (effect.PutCondition at condition.NotReady) e is) tt

  pub init_right : (a : ℕ) → Doing (does.Init a) → Right
  init_right a acts = succeeds_with (does.Init a) acts (made_ready program s (operand thread a)) acts.does by
    where
      by : (e : Effect) → made_ready program s (operand thread a) ≡ Some e → EffectRight e
      by e is =
          let at = chained (λ at. option_and_then (ready_of at) (places.kind_through program.types s (operand thread a))) (places.part_of s (operand thread a)) e is in
          let k = chained (ready_of at.0) (places.kind_through program.types s (operand thread a)) e at.2 in
          ready_right at.0 k.0 e k.2

  pub destroy_right : (a : ℕ) → Doing (does.Destroy a) → Right
  destroy_right a acts = succeeds_with (does.Destroy a) acts (made_unready program s (operand thread a)) acts.does by
    where
      by : (e : Effect) → made_unready program s (operand thread a) ≡ Some e → EffectRight e
      by e is =
          let at = chained (λ at. option_and_then (unready_of at) (places.kind_through program.types s (operand thread a))) (places.part_of s (operand thread a)) e is in
          let k = chained (unready_of at.0) (places.kind_through program.types s (operand thread a)) e at.2 in
          unready_right at.0 k.0 e k.2

  -- ---- the end of an object

  pub free_right : (a : ℕ) → Doing (does.Free a) → Right
  free_right a acts = by (operand thread a) acts.does
    where
      by : (v : Option Value) → frees program p v ≡ Some ch → Right
      by None is = absurd (none-some ch is)
      by (Some (Number k n)) is = absurd (none-some ch is)
      by (Some (Pointer at)) is = changes_what (does.Free a) acts (Some (effect.End at.part.object)) is (λ e same. subst EffectRight (same_Some (effect.End at.part.object) e same) tt)
      by (Some (Function g)) is = absurd (none-some ch is)
      by (Some Null) is = goes_on (does.Free a) acts 0 is
      by (Some (Id u)) is = absurd (none-some ch is)
      by (Some Indeterminate) is = absurd (none-some ch is)
