-- What a thread that is about to access a cell touches is sound, by its action.
use Rattle.std.proofs.Common.{◌≡◌, ℕ, Bool, true, false, ◌&&◌, not, Option, Some, None, List, refl, ap, subst, ◌∙◌}
use Rattle.std.proofs.lemmas.Bool.{false≢true}
use Rattle.std.proofs.lemmas.Option.{none-some, same_Some}
use Rattle.std.specs.List.{slice_get}
use Rattle.std.specs.Option.{option_map, option_map_or, option_and_then}
use Rattle.std.specs.Prelude.{if◌then◌else◌}
use Rattle.lk_base.specs.declared.kind.Kind.TheVariants as kind
use Rattle.lk_cells.specs.Operands.{operand, current}
use Rattle.lk_cells.specs.Places as places
use Rattle.lk_cells.specs.declared.state.State.{State}
use Rattle.lk_cells.specs.declared.state.Thread.{Thread}
use Rattle.lk_facts.specs.EdgeRules.{value}
use Rattle.lk_facts.specs.Effects.{accessed, effect_of}
use Rattle.lk_facts.specs.Flow.{Flow}
use Rattle.lk_facts.specs.LabelRules.{IsPart}
use Rattle.lk_facts.specs.Labels.{LabelTable}
use Rattle.lk_facts.specs.PathTables.{IsClosed}
use Rattle.lk_facts.specs.Program.{action_at, effect_at}
use Rattle.lk_facts.specs.Typed.{GivesForm, PointsTo, PointsToForm}
use Rattle.lk_facts.specs.declared.action.Action.{Action}
use Rattle.lk_facts.specs.declared.action.Action.TheVariants as does
use Rattle.lk_facts.specs.declared.edge.Edge.{Edge}
use Rattle.lk_facts.specs.declared.point.Point.{Point}
use Rattle.lk_facts.specs.declared.program.Program.{Program}
use Rattle.lk_meaning.specs.Runs.{touched_by, through}
use Rattle.lk_meaning.specs.declared.touching.Touched.{Touched}
use Rattle.lk_right.proofs.Sees.{has_pointer, sees_type, sees_form, scalar_no_void}
use Rattle.lk_right.specs.Contexts.{Contexts}
use Rattle.lk_right.specs.Laws.{IsAnalysed}
use Rattle.lk_right.specs.Right.{IsPointerRight}
use Rattle.lk_right.specs.Sound.{IsSound, IsFrameSound, accessed_at}
use Rattle.lk_sound.proofs.Touching.{access_right}
use Rattle.lk_sound.specs.Soundness.{IsAccessSound}
use Rattle.lk_types.specs.Nodes.{node_of}
use Rattle.lk_types.specs.Objects.{is_cell}
use Rattle.lk_types.specs.Table.{type_at}
use Rattle.lk_types.specs.Walks.{is_void}
use Rattle.lk_types.specs.declared.c_type.CType.{CType}
use Rattle.lk_types.specs.declared.c_type.CType.TheVariants.{Void, Int, ThreadId, Mutex, Cond, Pointer, Array, Struct, Function, Opaque}
use Rattle.lk_types.specs.declared.node.Sel.TheVariants.{Target}
use Rattle.lk_values.specs.declared.cell.Pointer.{Pointer as PointerTo}
use Rattle.lk_values.specs.declared.value.Value.{Value}
use Rattle.lk_values.specs.declared.value.Value.TheVariants as of

scalar_form : (form : CType) → is_cell form ≡ true → is_void form ≡ false
scalar_form Void h = absurd (false≢true h)
scalar_form (Int k) h = refl
scalar_form ThreadId h = refl
scalar_form Mutex h = refl
scalar_form Cond h = refl
scalar_form (Pointer t) h = refl
scalar_form (Array t n) h = refl
scalar_form (Struct s) h = refl
scalar_form (Function result params dots) h = refl
scalar_form (Opaque n) h = refl

-- the access of an action
effect_is : (program : Program) (p : ℕ) (action : Action) → action_at program p ≡ Some action → effect_at program p ≡ Some (effect_of action)
effect_is program p action h = by (slice_get program.points p) h
  where
    by : (o : Option Point) → option_map (λ point. point.action) o ≡ Some action → option_map (λ point. effect_of point.action) o ≡ Some (effect_of action)
    by None h = absurd (none-some action h)
    by (Some point) h = ap (λ a. Some (effect_of a)) (same_Some point.action action h)

pub accesses : (program : Program) (p a : ℕ) (action : Action) → action_at program p ≡ Some action → accessed (effect_of action) ≡ Some a → accessed_at program p ≡ Some a
accesses program p a action at h = ap (λ o. option_and_then accessed o) (effect_is program p action at) ∙ h

-- a cell that is touched through a value is what a pointer points to
record IsThrough (s : State) (v : Option Value) (touched : Touched) : Type 0 where
  at : PointerTo
  is : v ≡ Some (of.Pointer at)
  part : at.part ≡ touched.cell

through_pointer : (s : State) (writes : Bool) (v : Option Value) (touched : Touched) → through s writes v ≡ Some touched → IsThrough s v touched
through_pointer s writes None touched h = absurd (none-some touched h)
through_pointer s writes (Some (of.Number k n)) touched h = absurd (none-some touched h)
through_pointer s writes (Some (of.Pointer p)) touched h = by (places.lives s p.part.object && not p.past) h
  where
    by : (b : Bool) → option_map (λ cell. record { cell = cell; writes = writes }) (if b then Some p.part else None) ≡ Some touched → IsThrough s (Some (of.Pointer p)) touched
    by true h = record { at = p; is = refl; part = ap (λ (t : Touched). t.cell) (same_Some (record { cell = p.part; writes = writes }) touched h) }
    by false h = absurd (none-some touched h)
through_pointer s writes (Some (of.Function f)) touched h = absurd (none-some touched h)
through_pointer s writes (Some of.Null) touched h = absurd (none-some touched h)
through_pointer s writes (Some (of.Thread t)) touched h = absurd (none-some touched h)
through_pointer s writes (Some of.Indeterminate) touched h = absurd (none-some touched h)

module _ (program : Program) (labels : LabelTable) (es : List Edge) (ok : IsAnalysed program labels es) (flow : Flow) (closed : IsClosed es labels flow) (contexts : Contexts) (s : State) (sound : IsSound program labels es contexts s)
    (f : ℕ) (c : List ℕ) (thread : Thread) (own : IsFrameSound program labels es contexts.homes f c thread.frame) where
  abbrev Sound : Touched → Type 0
  Sound touched = IsAccessSound program labels flow s thread.frame.point touched.cell

  -- what the operand's pointer is to be
  abbrev IsRightFor : Option Value → ℕ → Type 0
  IsRightFor v a = (at : PointerTo) → v ≡ Some (of.Pointer at) → IsPointerRight program labels es contexts.homes at (value program a) c

  -- through an operand whose pointers lead to its Target
  through_right : (a : ℕ) (writes : Bool) (v : Option Value) (touched : Touched) → accessed_at program thread.frame.point ≡ Some a → IsRightFor v a →
      ((at : PointerTo) (right : IsPointerRight program labels es contexts.homes at (value program a) c) → IsPart program right.held_by Target right.aim) → through s writes v ≡ Some touched → Sound touched
  through_right a writes v touched accessing right leads h =
      let found = through_pointer s writes v touched h in
      let is_right = right found.at found.is in
      subst (λ cell. IsAccessSound program labels flow s thread.frame.point cell) found.part (access_right program labels es ok flow closed contexts s sound thread.frame.point a c found.at accessing is_right (leads found.at is_right))

  given_right : (a u : ℕ) → GivesForm program a (Pointer u) → (at : PointerTo) → operand thread a ≡ Some (of.Pointer at) → IsPointerRight program labels es contexts.homes at (value program a) c
  given_right a u gives at h = own.values a (of.Pointer at) h (has_pointer program labels es ok a u gives)

  current_right : (a u : ℕ) → GivesForm program a (Pointer u) → (at : PointerTo) → accessed_at program thread.frame.point ≡ Some a → current thread a ≡ Some (of.Pointer at) → IsPointerRight program labels es contexts.homes at (value program a) c
  current_right a u gives at accessing h = by thread.frame.next_cell refl h
    where
      pointer_one : (x y : PointerTo) → Some (of.Pointer x) ≡ Some (of.Pointer y) → x ≡ y
      pointer_one x y h = cc

      by : (next : Option PointerTo) → thread.frame.next_cell ≡ next → option_map_or (λ p. Some (of.Pointer p)) next (operand thread a) ≡ Some (of.Pointer at) → IsPointerRight program labels es contexts.homes at (value program a) c
      by None e h = given_right a u gives at h
      by (Some next) e h = own.next a at accessing (e ∙ ap Some (pointer_one next at h))

  -- an operand that points to a type that isn't void
  to_plain : (a t : ℕ) (writes : Bool) (v : Option Value) (touched : Touched) → accessed_at program thread.frame.point ≡ Some a → IsRightFor v a → PointsTo program a t → is_void (type_at program.types t) ≡ false → through s writes v ≡ Some touched → Sound touched
  to_plain a t writes v touched accessing right points plain h = through_right a writes v touched accessing right (λ at is. sees_type program labels es ok contexts.homes a c at is t points plain) h

  to_form : (a : ℕ) (form : CType) (writes : Bool) (v : Option Value) (touched : Touched) → accessed_at program thread.frame.point ≡ Some a → IsRightFor v a → PointsToForm program a form → is_void form ≡ false → through s writes v ≡ Some touched → Sound touched
  to_form a form writes v touched accessing right points plain h = through_right a writes v touched accessing right (λ at is. sees_form program labels es ok contexts.homes a c at is form points plain) h

  pub touched_sound : (action : Action) → action_at program thread.frame.point ≡ Some action → (touched : Touched) → touched_by s thread action ≡ Some touched → Sound touched
  touched_sound (does.Value number ty) at touched h = absurd (none-some touched h)
  touched_sound (does.Null ty) at touched h = absurd (none-some touched h)
  touched_sound (does.Func g) at touched h = absurd (none-some touched h)
  touched_sound does.SelfId at touched h = absurd (none-some touched h)
  touched_sound (does.Root r) at touched h = absurd (none-some touched h)
  touched_sound (does.Text r) at touched h = absurd (none-some touched h)
  touched_sound (does.Field a k) at touched h = absurd (none-some touched h)
  touched_sound (does.Index a b into) at touched h = absurd (none-some touched h)
  touched_sound (does.Read a raw) at touched h =
      let is = ok.lowered.typed thread.frame.point f (does.Read a raw) at own.stands in
      to_plain a is.0 false (operand thread a) touched (accesses program thread.frame.point a (does.Read a raw) at refl) (λ p e. given_right a is.1.0 is.1.1 p e) is.1 (scalar_no_void program labels es ok thread.frame.point is.0 is.2 is.3) h
  touched_sound (does.Write a b raw) at touched h =
      let is = ok.lowered.typed thread.frame.point f (does.Write a b raw) at own.stands in
      to_plain a is.0 true (operand thread a) touched (accesses program thread.frame.point a (does.Write a b raw) at refl) (λ p e. given_right a is.1.0 is.1.1 p e) is.1 (scalar_no_void program labels es ok b is.0 is.2 is.3) h
  touched_sound (does.SlotRead slot) at touched h = absurd (none-some touched h)
  touched_sound (does.SlotWrite slot a) at touched h = absurd (none-some touched h)
  touched_sound (does.Unary op a) at touched h = absurd (none-some touched h)
  touched_sound (does.Binary op a b) at touched h = absurd (none-some touched h)
  touched_sound (does.Compute args ty equal) at touched h = absurd (none-some touched h)
  touched_sound (does.Convert a ty) at touched h = absurd (none-some touched h)
  touched_sound (does.Branch a) at touched h = absurd (none-some touched h)
  touched_sound (does.Switch a cases) at touched h = absurd (none-some touched h)
  touched_sound does.Skip at touched h = absurd (none-some touched h)
  touched_sound (does.Call g args) at touched h = absurd (none-some touched h)
  touched_sound (does.PointerCall a args) at touched h = absurd (none-some touched h)
  touched_sound (does.Return a) at touched h = absurd (none-some touched h)
  touched_sound (does.Create g a) at touched h = absurd (none-some touched h)
  touched_sound (does.StoreId a) at touched h =
      let is = ok.lowered.typed thread.frame.point f (does.StoreId a) at own.stands in
      to_form a ThreadId true (operand thread a) touched (accesses program thread.frame.point a (does.StoreId a) at refl) (λ p e. given_right a is.0.0 is.0.1 p e) is.0 refl h
  touched_sound (does.Join a) at touched h = absurd (none-some touched h)
  touched_sound (does.Detach a) at touched h = absurd (none-some touched h)
  touched_sound does.ExitThread at touched h = absurd (none-some touched h)
  touched_sound does.ExitProcess at touched h = absurd (none-some touched h)
  touched_sound (does.Lock a) at touched h = absurd (none-some touched h)
  touched_sound (does.Unlock a) at touched h = absurd (none-some touched h)
  touched_sound (does.Release cond a) at touched h = absurd (none-some touched h)
  touched_sound (does.Retake a) at touched h = absurd (none-some touched h)
  touched_sound (does.Init a) at touched h = absurd (none-some touched h)
  touched_sound (does.Destroy a) at touched h = absurd (none-some touched h)
  touched_sound (does.Signal a) at touched h = absurd (none-some touched h)
  touched_sound (does.Allocate ty n clear r) at touched h = absurd (none-some touched h)
  touched_sound (does.Free a) at touched h = absurd (none-some touched h)
  touched_sound (does.Scan a) at touched h =
      let is = ok.lowered.typed thread.frame.point f (does.Scan a) at own.stands in
      let accessing = accesses program thread.frame.point a (does.Scan a) at refl in
      to_form a (Int kind.Char) false (current thread a) touched accessing (λ p e. current_right a is.0.0 is.0.1 p accessing e) is.0 refl h
  touched_sound (does.Fill a spot named) at touched h =
      let is = ok.lowered.typed thread.frame.point f (does.Fill a spot named) at own.stands in
      let accessing = accesses program thread.frame.point a (does.Fill a spot named) at refl in
      let t = (node_of program.types spot.node).type in
      to_plain a t true (current thread a) touched accessing (λ p e. current_right a is.0.0 is.0.1 p accessing e) is.0 (scalar_form (type_at program.types t) is.1) h
