-- Cells that a point reads, or puts something into: what it gives and puts is right.
use Rattle.std.proofs.Common.{◌≡◌, ℕ, Bool, true, false, List, Option, None, Some, refl, sym, ap, subst, ◌∙◌}
use Rattle.std.proofs.lemmas.Option.{none-some, same_Some}
use Rattle.std.specs.List.{slice_get}
use Rattle.std.specs.Option.{option_and_then, option_map, option_map_or}
use Rattle.std.specs.Prelude.{if◌then◌else◌, not, ◌&&◌}
use Rattle.lk_cells.specs.Cells.{value_at}
use Rattle.lk_cells.specs.Operands.{operand, current, pointer_in}
use Rattle.lk_cells.specs.Places.{lives, part_of, value_through, in_object}
use Rattle.lk_cells.specs.declared.state.State.{State}
use Rattle.lk_cells.specs.declared.state.Thread.{Thread}
use Rattle.lk_change.specs.Accesses.{value_put}
use Rattle.lk_change.specs.Going.{changes}
use Rattle.lk_change.specs.declared.change.Change.{Change}
use Rattle.lk_change.specs.declared.change.Effect.{Effect}
use Rattle.lk_change.specs.declared.change.Effect.TheVariants as effect
use Rattle.lk_facts.specs.EdgeRules.{value}
use Rattle.lk_facts.specs.Effects.{accessed, effect_of}
use Rattle.lk_facts.specs.Labels.{LabelTable}
use Rattle.lk_facts.specs.Program.{action_at}
use Rattle.lk_facts.specs.Typed.{IsTyped}
use Rattle.lk_facts.specs.declared.action.Action.{Action}
use Rattle.lk_facts.specs.declared.action.Action.TheVariants as does
use Rattle.lk_facts.specs.declared.edge.Edge.{Edge}
use Rattle.lk_facts.specs.declared.point.Point.{Point}
use Rattle.lk_facts.specs.declared.program.Program.{Program}
use Rattle.lk_laws.specs.RowLaws.{HasPointer}
use Rattle.lk_right.proofs.Cells.{read_right, write_right}
use Rattle.lk_right.proofs.Doing.{Acts, typed, homes_of, frame_sound, operand_right, gives_right, changes_right}
use Rattle.lk_right.proofs.Sees.{has_pointer, scalar_no_void, sees_type}
use Rattle.lk_right.specs.Changes.{IsPutRight, IsEffectRight, IsChangeRight}
use Rattle.lk_right.specs.Contexts.{Contexts}
use Rattle.lk_right.specs.Right.{IsPlaceAt, IsPointerRight, IsRight}
use Rattle.lk_right.specs.Sound.{accessed_at}
use Rattle.lk_types.specs.Table.{Table}
use Rattle.lk_values.proofs.Reasons.{mapped, chained}
use Rattle.lk_values.specs.declared.cell.Cell.{Cell}
use Rattle.lk_values.specs.declared.cell.Pointer.{Pointer as PointerTo}
use Rattle.lk_values.specs.declared.value.Value.{Value}
use Rattle.lk_values.specs.declared.value.Value.TheVariants.{Number, Pointer, Function, Null, Thread as Id, Indeterminate}

-- a part to which a value leads is that to which it points
pub record Leads (v : Option Value) (part : Cell) : Type 0 where
  pub pointer : PointerTo
  pub points : v ≡ Some (Pointer pointer)
  pub to : pointer.part ≡ part

pub part_leads : (s : State) (v : Option Value) (part : Cell) → part_of s v ≡ Some part → Leads v part
part_leads s None part h = absurd (none-some part h)
part_leads s (Some (Number k n)) part h = absurd (none-some part h)
part_leads s (Some (Pointer p)) part h = by (lives s p.part.object && not p.past) h
  where
    by : (b : Bool) → (if b then Some p.part else None) ≡ Some part → Leads (Some (Pointer p)) part
    by true h = record { pointer = p; points = refl; to = same_Some p.part part h }
    by false h = absurd (none-some part h)
part_leads s (Some (Function f)) part h = absurd (none-some part h)
part_leads s (Some Null) part h = absurd (none-some part h)
part_leads s (Some (Id t)) part h = absurd (none-some part h)
part_leads s (Some Indeterminate) part h = absurd (none-some part h)

pub pointer_is : (v : Option Value) (p : PointerTo) → pointer_in v ≡ Some p → v ≡ Some (Pointer p)
pointer_is None p h = absurd (none-some p h)
pointer_is (Some (Number k n)) p h = absurd (none-some p h)
pointer_is (Some (Pointer q)) p h = ap (λ x. Some (Pointer x)) (same_Some q p h)
pointer_is (Some (Function f)) p h = absurd (none-some p h)
pointer_is (Some Null) p h = absurd (none-some p h)
pointer_is (Some (Id t)) p h = absurd (none-some p h)
pointer_is (Some Indeterminate) p h = absurd (none-some p h)

one_pointer : (p q : PointerTo) → Some (Pointer p) ≡ Some (Pointer q) → p ≡ q
one_pointer p q h = cc

-- the operand through which an action accesses cells
pub accessed_by : (program : Program) (p : ℕ) (act : Action) → action_at program p ≡ Some act → accessed_at program p ≡ accessed (effect_of act)
accessed_by program p act h = by (slice_get program.points p) h
  where
    by : (o : Option Point) → option_map (λ point. point.action) o ≡ Some act → option_and_then accessed (option_map (λ point. effect_of point.action) o) ≡ accessed (effect_of act)
    by None h = absurd (none-some act h)
    by (Some point) h = ap (λ a. accessed (effect_of a)) (same_Some point.action act h)

-- Of a step of an action.
module _ (program : Program) (labels : LabelTable) (es : List Edge) (contexts : Contexts) (s : State) (t w f : ℕ) (thread : Thread) (cs : List (List ℕ)) (c : List ℕ) (action : Action) (ch : Change)
    (acts : Acts program labels es contexts s t w f thread cs c action ch) where
  abbrev Pointer-right : ℕ → PointerTo → Type 0
  Pointer-right a pointer = IsPointerRight program labels es contexts.homes pointer (value program a) c

  -- the operand through which it accesses cells
  pub through : accessed_at program thread.frame.point ≡ accessed (effect_of action)
  through = accessed_by program thread.frame.point action acts.performs.at

  -- the pointer that an operand gave is right
  pub operand_pointer : (a : ℕ) (pointer : PointerTo) → HasPointer program (value program a) → operand thread a ≡ Some (Pointer pointer) → Pointer-right a pointer
  operand_pointer a pointer has h = operand_right program labels es contexts s t w f thread cs c action ch acts a (Pointer pointer) h has

  -- and so is the pointer with which a point stands that goes from cell to cell
  pub current_pointer : (a : ℕ) (pointer : PointerTo) → HasPointer program (value program a) → accessed_at program thread.frame.point ≡ Some a → current thread a ≡ Some (Pointer pointer) → Pointer-right a pointer
  current_pointer a pointer has goes_through h = by thread.frame.next_cell refl h
    where
      by : (o : Option PointerTo) → thread.frame.next_cell ≡ o → option_map_or (λ q. Some (Pointer q)) o (operand thread a) ≡ Some (Pointer pointer) → Pointer-right a pointer
      by None is h = operand_pointer a pointer has h
      by (Some next) is h = subst (Pointer-right a) (one_pointer next pointer h) ((frame_sound program labels es contexts s t w f thread cs c action ch acts).next a next goes_through is)

  -- a value is right for a cell to which a right pointer leads, where it is so for the place of the cell
  pub put_right : (a : ℕ) (pointer : PointerTo) (part : Cell) (v : Value) (right : Pointer-right a pointer) → pointer.part ≡ part →
      IsRight program labels es contexts.homes v (IsPlaceAt program right.home.root pointer.part.path) right.home.context → IsPutRight program labels es contexts.homes part v
  put_right a pointer part v right same is = record {
    home = right.home;
    lives_in = ap (λ x. slice_get contexts.homes x.object) (sym same) ∙ right.lives_in;
    right = subst (λ (x : Cell). IsRight program labels es contexts.homes v (IsPlaceAt program right.home.root x.path) right.home.context) same is;
  }

module _ (program : Program) (labels : LabelTable) (es : List Edge) (contexts : Contexts) (s : State) (t w f : ℕ) (thread : Thread) (cs : List (List ℕ)) (c : List ℕ) (ch : Change) where
  abbrev table : Table
  table = program.types

  abbrev p : ℕ
  p = thread.frame.point

  abbrev Acts-as : Action → Type 0
  Acts-as action = Acts program labels es contexts s t w f thread cs c action ch

  abbrev Change-right : Type 0
  Change-right = IsChangeRight program labels es contexts t thread f cs c ch

  -- a value is read from a cell
  pub read_acts : (a : ℕ) (raw : Bool) → Acts-as (does.Read a raw) → Change-right
  read_acts a raw acts = gives_right program labels es contexts s t w f thread cs c (does.Read a raw) ch acts (value_through table s (operand thread a)) acts.does (λ v given. of v given)
    where
      of : (v : Value) → value_through table s (operand thread a) ≡ Some v → IsRight program labels es contexts.homes v (value program p) c
      of v given =
          let part = chained (in_object s (value_at table)) (part_of s (operand thread a)) v given in
          let object = chained (λ object. value_at table object part.0.path) (slice_get s.objects part.0.object) v part.2 in
          let leads = part_leads s (operand thread a) part.0 part.1 in
          let takes = typed program labels es contexts s t w f thread cs c (does.Read a raw) ch acts in
          let right = operand_pointer program labels es contexts s t w f thread cs c (does.Read a raw) ch acts a leads.pointer (has_pointer program labels es acts.ok a takes.1.0 takes.1.1) leads.points in
          let seen = sees_type program labels es acts.ok contexts.homes a c leads.pointer right takes.0 takes.1 (scalar_no_void program labels es acts.ok p takes.0 takes.2 takes.3) in
          let there : slice_get s.objects leads.pointer.part.object ≡ Some object.0 = ap (λ x. slice_get s.objects x.object) leads.to ∙ object.1 in
          let holds : value_at table object.0 leads.pointer.part.path ≡ Some v = ap (λ x. value_at table object.0 x.path) leads.to ∙ object.2 in
          read_right program labels es acts.ok contexts.homes p f a c acts.performs.stands leads.pointer right seen raw acts.performs.at object.0 (acts.sound.objects leads.pointer.part.object object.0 right.home there right.lives_in) v holds

  -- a value is put into a cell
  puts : (action : Action) (a : ℕ) (v : Option Value) (acts : Acts-as action) → HasPointer program (value program a) → changes program p (value_put s (operand thread a) v) ≡ Some ch →
      ((x : Value) (pointer : PointerTo) (right : IsPointerRight program labels es contexts.homes pointer (value program a) c) → v ≡ Some x → IsRight program labels es contexts.homes x (IsPlaceAt program right.home.root pointer.part.path) right.home.context) → Change-right
  puts action a v acts has h holds = changes_right program labels es contexts s t w f thread cs c action ch acts (value_put s (operand thread a) v) h (λ e is. of e is)
    where
      of : (e : Effect) → value_put s (operand thread a) v ≡ Some e → IsEffectRight program labels es (homes_of program labels es contexts s t w f thread cs c action ch acts e) p f c e
      of e is =
          let part = chained (λ x. option_map (effect.PutValue x) v) (part_of s (operand thread a)) e is in
          let given = mapped (effect.PutValue part.0) v e part.2 in
          let leads = part_leads s (operand thread a) part.0 part.1 in
          let right = operand_pointer program labels es contexts s t w f thread cs c action ch acts a leads.pointer has leads.points in
          subst (λ e. IsEffectRight program labels es (homes_of program labels es contexts s t w f thread cs c action ch acts e) p f c e) given.2
          (put_right program labels es contexts s t w f thread cs c action ch acts a leads.pointer part.0 given.0 right leads.to (holds given.0 leads.pointer right given.1))

  pub write_acts : (a b : ℕ) (raw : Bool) → Acts-as (does.Write a b raw) → Change-right
  write_acts a b raw acts = puts (does.Write a b raw) a (operand thread b) acts (has_pointer program labels es acts.ok a takes.1.0 takes.1.1) acts.does (λ v pointer right given. of v pointer right given)
    where
      takes : IsTyped program p f (does.Write a b raw)
      takes = typed program labels es contexts s t w f thread cs c (does.Write a b raw) ch acts

      of : (v : Value) (pointer : PointerTo) (right : IsPointerRight program labels es contexts.homes pointer (value program a) c) → operand thread b ≡ Some v → IsRight program labels es contexts.homes v (IsPlaceAt program right.home.root pointer.part.path) right.home.context
      of v pointer right given =
          let seen = sees_type program labels es acts.ok contexts.homes a c pointer right takes.0 takes.1 (scalar_no_void program labels es acts.ok b takes.0 takes.2 takes.3) in
          write_right program labels es acts.ok contexts.homes p f a c acts.performs.stands pointer right seen b raw acts.performs.at v (operand_right program labels es contexts s t w f thread cs c (does.Write a b raw) ch acts b v given)

  -- the id of a thread is put into a cell
  pub store_acts : (a : ℕ) → Acts-as (does.StoreId a) → Change-right
  store_acts a acts = puts (does.StoreId a) a (Some (Id thread.frame.created)) acts (has_pointer program labels es acts.ok a takes.0.0 takes.0.1) acts.does (λ v pointer right given. subst (λ v. IsRight program labels es contexts.homes v (IsPlaceAt program right.home.root pointer.part.path) right.home.context) (same_Some (Id thread.frame.created) v given) tt)
    where
      takes : IsTyped program p f (does.StoreId a)
      takes = typed program labels es contexts s t w f thread cs c (does.StoreId a) ch acts
