-- What a thread that is about to access a cell touches: an operand of its point leads there, by a pointer that is right for it.
use Rattle.std.proofs.Common.{◌≡◌, ℕ, Bool, true, false, ◌&&◌, ◌||◌, not, Option, Some, None, List, refl, ap, sym, ◌∙◌}
use Rattle.std.proofs.lemmas.Bool.{false≢true}
use Rattle.std.proofs.lemmas.Option.{none-some, same_Some}
use Rattle.std.specs.List.{slice_get}
use Rattle.std.specs.Option.{option_map, option_map_or, option_and_then}
use Rattle.std.specs.Prelude.{if◌then◌else◌}
use Rattle.lk_base.specs.declared.kind.Kind.TheVariants as kind
use Rattle.lk_cells.specs.Operands.{operand, current}
use Rattle.lk_cells.specs.Places as places
use Rattle.lk_cells.specs.declared.state.State.{State}
use Rattle.lk_cells.specs.declared.state.Thread.{Thread}
use Rattle.lk_facts.specs.Basis.{Basis}
use Rattle.lk_facts.specs.Doing.{Accesses}
use Rattle.lk_facts.specs.Doing.Accesses.{reads, writes as writes_it}
use Rattle.lk_facts.specs.EdgeRules.{value}
use Rattle.lk_facts.specs.Effects.{accessed, effect_of, writes}
use Rattle.lk_facts.specs.LabelRules.{IsPart}
use Rattle.lk_facts.specs.Labels.{LabelTable, target_at}
use Rattle.lk_facts.specs.Program.{action_at, effect_at, function_at, live_at, writes_at}
use Rattle.lk_facts.specs.Typed.{GivesForm, PointsTo, PointsToForm}
use Rattle.lk_facts.specs.declared.action.Action.{Action}
use Rattle.lk_facts.specs.declared.action.Action.TheVariants as does
use Rattle.lk_facts.specs.declared.edge.Edge.{Edge}
use Rattle.lk_facts.specs.declared.effect.Effect.{Effect}
use Rattle.lk_facts.specs.declared.effect.Effect.TheVariants as effect
use Rattle.lk_facts.specs.declared.point.Point.{Point}
use Rattle.lk_facts.specs.declared.program.Program.{Program}
use Rattle.lk_meaning.specs.Runs.{touch, touched_by, through}
use Rattle.lk_meaning.specs.declared.touching.Touched.{Touched}
use Rattle.lk_right.proofs.Sees.{has_pointer, sees_type, sees_form, scalar_no_void}
use Rattle.lk_right.specs.Contexts.{Home}
use Rattle.lk_right.specs.Laws.{IsAnalysed}
use Rattle.lk_right.specs.Right.{IsPointerRight}
use Rattle.lk_right.specs.Sound.{IsFrameSound, accessed_at}
use Rattle.lk_safe.specs.Soundness.{IsNoRetake}
use Rattle.lk_sound.proofs.Acting.{accesses}
use Rattle.lk_types.specs.Nodes.{node_of}
use Rattle.lk_types.specs.Objects.{is_cell}
use Rattle.lk_types.specs.Table.{type_at}
use Rattle.lk_types.specs.Walks.{is_void}
use Rattle.lk_types.specs.declared.c_type.CType.{CType}
use Rattle.lk_types.specs.declared.c_type.CType.TheVariants.{Void, Int, ThreadId, Mutex, Cond, Pointer, Array, Struct, Function, Opaque}
use Rattle.lk_types.specs.declared.node.Sel.TheVariants.{Target}
use Rattle.lk_values.proofs.Reasons.{chained}
use Rattle.lk_values.specs.declared.cell.Pointer.{Pointer as PointerTo}
use Rattle.lk_values.specs.declared.value.Value.{Value}
use Rattle.lk_values.specs.declared.value.Value.TheVariants as of

-- ---- who touches a cell

-- a thread that touches a cell is there, and its action does so
pub record Touches (program : Program) (s : State) (t : ℕ) (touched : Touched) : Type 0 where
  pub thread : Thread
  pub there : slice_get s.threads t ≡ Some thread
  pub action : Action
  pub at : action_at program thread.frame.point ≡ Some action
  pub by : touched_by s thread action ≡ Some touched

pub touches : (program : Program) (s : State) (t : ℕ) (touched : Touched) → touch program s t ≡ Some touched → Touches program s t touched
touches program s t touched h =
    let found = chained next_of (slice_get s.threads t) touched h in
    let action = chained (touched_by s found.0) (action_at program found.0.frame.point) touched (by_end (found.0.ended || s.ended) found.0 found.2) in
    record { thread = found.0; there = found.1; action = action.0; at = action.1; by = action.2 }
  where
    next_of : Thread → Option Touched
    next_of thread = if thread.ended || s.ended then None else option_and_then (touched_by s thread) (action_at program thread.frame.point)

    by_end : (b : Bool) (thread : Thread) → (if b then None else option_and_then (touched_by s thread) (action_at program thread.frame.point)) ≡ Some touched →
        option_and_then (touched_by s thread) (action_at program thread.frame.point) ≡ Some touched
    by_end true thread h = absurd (none-some touched h)
    by_end false thread h = h

-- ---- what an action accesses

-- whether the point of an action writes what it accesses
writes_is : (program : Program) (p : ℕ) (action : Action) → action_at program p ≡ Some action → writes_at program p ≡ writes (effect_of action)
writes_is program p action h = by (slice_get program.points p) h
  where
    by : (o : Option Point) → option_map (λ point. point.action) o ≡ Some action → option_map_or (λ point. writes (effect_of point.action)) o false ≡ writes (effect_of action)
    by None h = absurd (none-some action h)
    by (Some point) h = ap (λ a. writes (effect_of a)) (same_Some point.action action h)

effect_is : (program : Program) (p : ℕ) (action : Action) → action_at program p ≡ Some action → effect_at program p ≡ Some (effect_of action)
effect_is program p action h = by (slice_get program.points p) h
  where
    by : (o : Option Point) → option_map (λ point. point.action) o ≡ Some action → option_map (λ point. effect_of point.action) o ≡ Some (effect_of action)
    by None h = absurd (none-some action h)
    by (Some point) h = ap (λ a. Some (effect_of a)) (same_Some point.action action h)

-- a point that accesses cells takes no mutex again
pub no_retake : (program : Program) (p a : ℕ) → accessed_at program p ≡ Some a → IsNoRetake program p
no_retake program p a accessing b at = none-some a (sym (ap (λ o. option_and_then accessed o) (effect_is program p (does.Retake b) at)) ∙ accessing)

-- a live point of a function that accesses cells through an operand accesses what the label of the operand's target names
pub accesses_label : (basis : Basis) (p f a x : ℕ) → live_at basis.program p ≡ true → function_at basis.program p ≡ Some f → accessed_at basis.program p ≡ Some a →
    target_at basis.labels a ≡ Some x → Accesses basis p f x
accesses_label basis p f a x live stands accessing leads = by (effect_at basis.program p) refl accessing
  where
    by : (found : Option Effect) → effect_at basis.program p ≡ found → option_and_then accessed found ≡ Some a → Accesses basis p f x
    by None is h = absurd (none-some a h)
    by (Some effect.Nothing) is h = absurd (none-some a h)
    by (Some (effect.Reads b)) is h = reads b (record { live = live; of = stands; is = is }) (ap (λ c. target_at basis.labels c) (same_Some b a h) ∙ leads)
    by (Some (effect.Writes b)) is h = writes_it b (record { live = live; of = stands; is = is }) (ap (λ c. target_at basis.labels c) (same_Some b a h) ∙ leads)
    by (Some (effect.Takes b)) is h = absurd (none-some a h)
    by (Some (effect.Frees b)) is h = absurd (none-some a h)
    by (Some (effect.Runs g)) is h = absurd (none-some a h)
    by (Some (effect.RunsThrough b)) is h = absurd (none-some a h)
    by (Some (effect.Starts g)) is h = absurd (none-some a h)

-- ---- the pointer by which a cell is touched

scalar_form : (form : CType) → is_cell form ≡ true → is_void form ≡ false
scalar_form Void h = absurd (false≢true h)
scalar_form (Int k) h = refl
scalar_form ThreadId h = refl
scalar_form Mutex h = refl
scalar_form Cond h = refl
scalar_form (Pointer t) h = refl
scalar_form (Array t n) h = refl
scalar_form (Struct s) h = refl
scalar_form (Function result params dots) h = refl
scalar_form (Opaque n) h = refl

-- a cell that is touched through a value is what a pointer points to
record IsThrough (writing : Bool) (v : Option Value) (touched : Touched) : Type 0 where
  at : PointerTo
  is : v ≡ Some (of.Pointer at)
  part : at.part ≡ touched.cell
  wrote : writing ≡ touched.writes

through_pointer : (s : State) (writing : Bool) (v : Option Value) (touched : Touched) → through s writing v ≡ Some touched → IsThrough writing v touched
through_pointer s writing None touched h = absurd (none-some touched h)
through_pointer s writing (Some (of.Number k n)) touched h = absurd (none-some touched h)
through_pointer s writing (Some (of.Pointer p)) touched h = by (places.lives s p.part.object && not p.past) h
  where
    by : (b : Bool) → option_map (λ cell. record { cell = cell; writes = writing }) (if b then Some p.part else None) ≡ Some touched → IsThrough writing (Some (of.Pointer p)) touched
    by true h =
        let same = same_Some (record { cell = p.part; writes = writing }) touched h in
        record { at = p; is = refl; part = ap (λ (t : Touched). t.cell) same; wrote = ap (λ (t : Touched). t.writes) same }
    by false h = absurd (none-some touched h)
through_pointer s writing (Some (of.Function f)) touched h = absurd (none-some touched h)
through_pointer s writing (Some of.Null) touched h = absurd (none-some touched h)
through_pointer s writing (Some (of.Thread t)) touched h = absurd (none-some touched h)
through_pointer s writing (Some of.Indeterminate) touched h = absurd (none-some touched h)

module _ (program : Program) (labels : LabelTable) (es : List Edge) (ok : IsAnalysed program labels es) (homes : List Home) (s : State) (f : ℕ) (c : List ℕ) (thread : Thread)
    (own : IsFrameSound program labels es homes f c thread.frame) where
  -- the operand of the access has a pointer to the cell, which leads to the operand's Target
  pub record IsAccess (touched : Touched) : Type 0 where
    pub operand_ : ℕ
    pub accessing : accessed_at program thread.frame.point ≡ Some operand_
    pub wrote : writes_at program thread.frame.point ≡ touched.writes
    pub pointer : PointerTo
    pub to : pointer.part ≡ touched.cell
    pub right : IsPointerRight program labels es homes pointer (value program operand_) c
    pub leads : IsPart program right.held_by Target right.aim

  -- what the operand's pointer is to be
  abbrev IsRightFor : Option Value → ℕ → Type 0
  IsRightFor v a = (at : PointerTo) → v ≡ Some (of.Pointer at) → IsPointerRight program labels es homes at (value program a) c

  -- through an operand whose pointers lead to its Target
  through_right : (action : Action) → action_at program thread.frame.point ≡ Some action → (a : ℕ) (v : Option Value) (touched : Touched) → accessed (effect_of action) ≡ Some a → IsRightFor v a →
      ((at : PointerTo) (right : IsPointerRight program labels es homes at (value program a) c) → IsPart program right.held_by Target right.aim) →
      through s (writes (effect_of action)) v ≡ Some touched → IsAccess touched
  through_right action at a v touched accessing right leads h =
      let found = through_pointer s (writes (effect_of action)) v touched h in
      let is_right = right found.at found.is in
      record {
        operand_ = a;
        accessing = accesses program thread.frame.point a action at accessing;
        wrote = writes_is program thread.frame.point action at ∙ found.wrote;
        pointer = found.at;
        to = found.part;
        right = is_right;
        leads = leads found.at is_right;
      }

  given_right : (a u : ℕ) → GivesForm program a (Pointer u) → (at : PointerTo) → operand thread a ≡ Some (of.Pointer at) → IsPointerRight program labels es homes at (value program a) c
  given_right a u gives at h = own.values a (of.Pointer at) h (has_pointer program labels es ok a u gives)

  current_right : (a u : ℕ) → GivesForm program a (Pointer u) → (at : PointerTo) → accessed_at program thread.frame.point ≡ Some a → current thread a ≡ Some (of.Pointer at) →
      IsPointerRight program labels es homes at (value program a) c
  current_right a u gives at accessing h = by thread.frame.next_cell refl h
    where
      pointer_one : (x y : PointerTo) → Some (of.Pointer x) ≡ Some (of.Pointer y) → x ≡ y
      pointer_one x y h = cc

      by : (next : Option PointerTo) → thread.frame.next_cell ≡ next → option_map_or (λ p. Some (of.Pointer p)) next (operand thread a) ≡ Some (of.Pointer at) →
          IsPointerRight program labels es homes at (value program a) c
      by None e h = given_right a u gives at h
      by (Some next) e h = own.next a at accessing (e ∙ ap Some (pointer_one next at h))

  -- an operand that points to a type that isn't void
  to_plain : (action : Action) → action_at program thread.frame.point ≡ Some action → (a t : ℕ) (v : Option Value) (touched : Touched) → accessed (effect_of action) ≡ Some a →
      IsRightFor v a → PointsTo program a t →
      is_void (type_at program.types t) ≡ false → through s (writes (effect_of action)) v ≡ Some touched → IsAccess touched
  to_plain action at a t v touched accessing right points plain h = through_right action at a v touched accessing right (λ p is. sees_type program labels es ok homes a c p is t points plain) h

  to_form : (action : Action) → action_at program thread.frame.point ≡ Some action → (a : ℕ) (form : CType) (v : Option Value) (touched : Touched) → accessed (effect_of action) ≡ Some a →
      IsRightFor v a → PointsToForm program a form →
      is_void form ≡ false → through s (writes (effect_of action)) v ≡ Some touched → IsAccess touched
  to_form action at a form v touched accessing right points plain h = through_right action at a v touched accessing right (λ p is. sees_form program labels es ok homes a c p is form points plain) h

  pub access_of : (action : Action) → action_at program thread.frame.point ≡ Some action → (touched : Touched) → touched_by s thread action ≡ Some touched → IsAccess touched
  access_of (does.Value number ty) at touched h = absurd (none-some touched h)
  access_of (does.Null ty) at touched h = absurd (none-some touched h)
  access_of (does.Func g) at touched h = absurd (none-some touched h)
  access_of does.SelfId at touched h = absurd (none-some touched h)
  access_of (does.Root r) at touched h = absurd (none-some touched h)
  access_of (does.Text r) at touched h = absurd (none-some touched h)
  access_of (does.Field a k) at touched h = absurd (none-some touched h)
  access_of (does.Index a b into) at touched h = absurd (none-some touched h)
  access_of (does.Read a raw) at touched h =
      let is = ok.lowered.typed thread.frame.point f (does.Read a raw) at own.stands in
      to_plain (does.Read a raw) at a is.0 (operand thread a) touched refl (λ p e. given_right a is.1.0 is.1.1 p e) is.1 (scalar_no_void program labels es ok thread.frame.point is.0 is.2 is.3) h
  access_of (does.Write a b raw) at touched h =
      let is = ok.lowered.typed thread.frame.point f (does.Write a b raw) at own.stands in
      to_plain (does.Write a b raw) at a is.0 (operand thread a) touched refl (λ p e. given_right a is.1.0 is.1.1 p e) is.1 (scalar_no_void program labels es ok b is.0 is.2 is.3) h
  access_of (does.SlotRead slot) at touched h = absurd (none-some touched h)
  access_of (does.SlotWrite slot a) at touched h = absurd (none-some touched h)
  access_of (does.Unary op a) at touched h = absurd (none-some touched h)
  access_of (does.Binary op a b) at touched h = absurd (none-some touched h)
  access_of (does.Compute args ty equal) at touched h = absurd (none-some touched h)
  access_of (does.Convert a ty) at touched h = absurd (none-some touched h)
  access_of (does.Branch a) at touched h = absurd (none-some touched h)
  access_of (does.Switch a cases) at touched h = absurd (none-some touched h)
  access_of does.Skip at touched h = absurd (none-some touched h)
  access_of (does.Call g args) at touched h = absurd (none-some touched h)
  access_of (does.PointerCall a args) at touched h = absurd (none-some touched h)
  access_of (does.Return a) at touched h = absurd (none-some touched h)
  access_of (does.Create g a) at touched h = absurd (none-some touched h)
  access_of (does.StoreId a) at touched h =
      let is = ok.lowered.typed thread.frame.point f (does.StoreId a) at own.stands in
      to_form (does.StoreId a) at a ThreadId (operand thread a) touched refl (λ p e. given_right a is.0.0 is.0.1 p e) is.0 refl h
  access_of (does.Join a) at touched h = absurd (none-some touched h)
  access_of (does.Detach a) at touched h = absurd (none-some touched h)
  access_of does.ExitThread at touched h = absurd (none-some touched h)
  access_of does.ExitProcess at touched h = absurd (none-some touched h)
  access_of (does.Lock a) at touched h = absurd (none-some touched h)
  access_of (does.Unlock a) at touched h = absurd (none-some touched h)
  access_of (does.Release cond a) at touched h = absurd (none-some touched h)
  access_of (does.Retake a) at touched h = absurd (none-some touched h)
  access_of (does.Init a) at touched h = absurd (none-some touched h)
  access_of (does.Destroy a) at touched h = absurd (none-some touched h)
  access_of (does.Signal a) at touched h = absurd (none-some touched h)
  access_of (does.Allocate ty n clear r) at touched h = absurd (none-some touched h)
  access_of (does.Free a) at touched h = absurd (none-some touched h)
  access_of (does.Scan a) at touched h =
      let is = ok.lowered.typed thread.frame.point f (does.Scan a) at own.stands in
      let accessing = accesses program thread.frame.point a (does.Scan a) at refl in
      to_form (does.Scan a) at a (Int kind.Char) (current thread a) touched refl (λ p e. current_right a is.0.0 is.0.1 p accessing e) is.0 refl h
  access_of (does.Fill a spot named) at touched h =
      let is = ok.lowered.typed thread.frame.point f (does.Fill a spot named) at own.stands in
      let accessing = accesses program thread.frame.point a (does.Fill a spot named) at refl in
      let t = (node_of program.types spot.node).type in
      to_plain (does.Fill a spot named) at a t (current thread a) touched refl (λ p e. current_right a is.0.0 is.0.1 p accessing e) is.0 (scalar_form (type_at program.types t) is.1) h
