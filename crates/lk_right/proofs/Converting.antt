-- Conversions: of a pointer to its own type, to `void *`, and from there to the type of the part that it points to (C99 6.3.2.3, 1). All others give
-- no pointer.
use Rattle.std.proofs.Common.{◌≡◌, ℕ, Bool, true, false, List, Option, Some, None, refl, sym, ap, subst, ◌∙◌}
use Rattle.std.proofs.lemmas.Bool.{false≢true, true≢false, eqb-true}
use Rattle.std.proofs.lemmas.Option.{none-some, same_Some}
use Rattle.std.specs.List.{slice_get}
use Rattle.std.specs.Option.{option_and_then, option_map_or, option_eq}
use Rattle.std.specs.Prelude.{Ok, Err, unwrap_or, not, nat_eq, ◌||◌, ◌&&◌, if◌then◌else◌}
use Rattle.lk_base.specs.declared.kind.Kind.TheVariants as kind
use Rattle.lk_cells.specs.Converting.{target_of, is_void_pointer, is_part_of_type, to_pointer, converted, is_from_void, converted_to}
use Rattle.lk_cells.specs.Converting.{is_void as is_void_form}
use Rattle.lk_cells.specs.Parts.{form_of, type_along, node_along}
use Rattle.lk_cells.specs.declared.object.Object.{Object}
use Rattle.lk_cells.specs.declared.state.State.{State}
use Rattle.lk_change.specs.Numbers.{value_of}
use Rattle.lk_facts.specs.EdgeRules.{value}
use Rattle.lk_facts.specs.LabelRules.{is_function}
use Rattle.lk_facts.specs.Labels.{LabelTable}
use Rattle.lk_facts.specs.Program.{action_at, function_at, value_type_at}
use Rattle.lk_facts.specs.Typed.{IsForm, IsObjectType, IsRootType, GivesForm, PointsTo, PointsToForm, IsConversion}
use Rattle.lk_facts.specs.Typed.IsConversion.{numbers as of_numbers, truth as of_truth, same as of_same, to_void as of_void, from_void as of_typed, threads as of_threads}
use Rattle.lk_facts.specs.declared.action.Action.TheVariants as action
use Rattle.lk_facts.specs.declared.edge.Edge.{Edge}
use Rattle.lk_facts.specs.declared.label_entry.LabelName.{LabelName}
use Rattle.lk_facts.specs.declared.program.Program.{Program}
use Rattle.lk_facts.specs.declared.root.Holder.TheVariants.{Root}
use Rattle.lk_laws.proofs.AlikeEdges.{one_type}
use Rattle.lk_laws.proofs.NodesThere.{function_too}
use Rattle.lk_laws.proofs.VoidNodes.{void_too}
use Rattle.lk_laws.specs.FlowLaws.{type_of}
use Rattle.lk_right.proofs.Conversions.{object_type, same_right, to_void_right, from_void_right, no_function as leads_to_no_function}
use Rattle.lk_right.proofs.Paths.{typed_node}
use Rattle.lk_right.proofs.Plain.{plain_right, to_kind_plain, to_id_plain}
use Rattle.lk_right.proofs.Sees.{has_pointer}
use Rattle.lk_right.specs.Contexts.{Contexts}
use Rattle.lk_right.specs.Laws.{IsAnalysed}
use Rattle.lk_right.specs.Right.{IsPointerRight, IsFunctionRight, IsRight}
use Rattle.lk_right.specs.Sound.{IsSound}
use Rattle.lk_types.specs.Equal.{IsAlike}
use Rattle.lk_types.specs.Equal.IsEqualBut.{same}
use Rattle.lk_types.specs.Nodes.{Node, node_of, first}
use Rattle.lk_types.specs.Table.{Table, type_at}
use Rattle.lk_types.specs.Walks.{is_void}
use Rattle.lk_types.specs.declared.c_type.CType.{CType}
use Rattle.lk_types.specs.declared.c_type.CType.TheVariants.{Void, Int, ThreadId, Mutex, Cond, Pointer as PointerType, Array, Struct, Function as FunctionType, Opaque}
use Rattle.lk_types.specs.declared.node.Base.TheVariants.{Start}
use Rattle.lk_values.proofs.Reasons.{chained}
use Rattle.lk_values.specs.declared.cell.Pointer.{Pointer as PointerTo}
use Rattle.lk_values.specs.declared.value.Value.{Value}
use Rattle.lk_values.specs.declared.value.Value.TheVariants.{Number, Pointer, Function, Null, Thread as Id, Indeterminate}
use Rattle.lk_values.specs.declared.why.Why.TheVariants as why

same_node : (x y : Node) → Some x ≡ Some y → x ≡ y
same_node x y h = cc

-- a number that is equal to one that is there
some_equal : (o : Option ℕ) (u : ℕ) → option_eq nat_eq o (Some u) ≡ true → o ≡ Some u
some_equal None u h = absurd (false≢true h)
some_equal (Some t) u h = ap Some (eqb-true t u h)

-- a type that isn't void is none in the test of conversions
not_void : (o : Option CType) → is_void (unwrap_or o Void) ≡ false → option_map_or is_void_form o false ≡ false
not_void None h = refl
not_void (Some Void) h = absurd (true≢false h)
not_void (Some (Int k)) h = refl
not_void (Some ThreadId) h = refl
not_void (Some Mutex) h = refl
not_void (Some Cond) h = refl
not_void (Some (PointerType t)) h = refl
not_void (Some (Array t n)) h = refl
not_void (Some (Struct n)) h = refl
not_void (Some (FunctionType result params dots)) h = refl
not_void (Some (Opaque n)) h = refl

-- ---- what a conversion to a pointer gives

module _ (table : Table) (s : State) (t : ℕ) where
  -- the value stays as it is
  same_value : (from_void : Bool) (x v : Value) → value_of (to_pointer table s from_void t x) ≡ Some v → x ≡ v
  same_value from_void (Number k n) v h = absurd (none-some v h)
  same_value from_void (Pointer at) v h = by (not from_void || is_part_of_type table s t at) h
    where
      by : (b : Bool) → value_of (if b then Some (Ok (Pointer at)) else Some (Err why.WrongType)) ≡ Some v → Pointer at ≡ v
      by true h = same_Some (Pointer at) v h
      by false h = absurd (none-some v h)
  same_value from_void (Function g) v h = same_Some (Function g) v h
  same_value from_void Null v h = same_Some Null v h
  same_value from_void (Id u) v h = absurd (none-some v h)
  same_value from_void Indeterminate v h = absurd (none-some v h)

  -- and from `void *` its part has the type
  right_type : (at : PointerTo) (v : Value) → value_of (to_pointer table s true t (Pointer at)) ≡ Some v → is_part_of_type table s t at ≡ true
  right_type at v h = by (is_part_of_type table s t at) h
    where
      by : (b : Bool) → value_of (if not true || b then Some (Ok (Pointer at)) else Some (Err why.WrongType)) ≡ Some v → b ≡ true
      by true h = refl
      by false h = absurd (none-some v h)

module _ (program : Program) (labels : LabelTable) (es : List Edge) (ok : IsAnalysed program labels es) where
  abbrev table : Table
  table = program.types

  abbrev Alike : ℕ → ℕ → Type 0
  Alike a b = IsAlike program.types.types a b

  abbrev ty : LabelName → ℕ
  ty x = type_of program x

  module _ (contexts : Contexts) (s : State) (sound : IsSound program labels es contexts s) (p f a to : ℕ) (c : List ℕ) (stands : function_at program p ≡ Some f) (converts : action_at program p ≡ Some (action.Convert a to)) where
    -- right for what the operand holds, and for what the point gives
    abbrev Given : Value → Type 0
    Given x = IsRight program labels es contexts.homes x (value program a) c

    abbrev Right : Value → Type 0
    Right x = IsRight program labels es contexts.homes x (value program p) c

    abbrev GivenPointer : PointerTo → Type 0
    GivenPointer at = IsPointerRight program labels es contexts.homes at (value program a) c

    abbrev RightPointer : PointerTo → Type 0
    RightPointer at = IsPointerRight program labels es contexts.homes at (value program p) c

    types : (value_type_at program p ≡ Some to) × IsConversion program a p
    types = ok.lowered.typed p f (action.Convert a to) converts stands

    -- ---- to the same type

    kept_right : (t : ℕ) → PointsTo program a t → PointsTo program p t → (x : Value) → Given x → Right x
    kept_right t from on x right = same_right program labels es ok contexts.homes p f a to c stands converts t from on x right

    -- ---- a pointer to an object points to no function

    no_function : (g u : ℕ) → is_function (type_at table u) ≡ false → GivesForm program a (PointerType u) → IsFunctionRight program labels es contexts.homes g (value program a) c → ⊥
    no_function g u plain gives right = leads_to_no_function program labels es ok contexts.homes a g u c gives plain right

    -- ---- to `void *`

    void_pointer : (t : ℕ) → PointsTo program a t → is_void (type_at table t) ≡ false → PointsToForm program p Void → (at : PointerTo) → GivenPointer at → RightPointer at
    void_pointer t from plain void at right = to_void_right program labels es ok contexts.homes p f a to c stands converts at right from.0 from.1 (void_too table ok.table from.0 t from.2 ∙ plain) void

    void_right : (t : ℕ) → PointsTo program a t → IsObjectType table t → PointsToForm program p Void → (x : Value) → Given x → Right x
    void_right t from object void (Number k n) right = tt
    void_right t from object void (Pointer at) right = λ has. void_pointer t from (object_type table t object).0 void at (right (has_pointer program labels es ok a from.0 from.1))
    void_right t from object void (Function g) right = absurd (no_function g from.0 (function_too table ok.table from.0 t from.2 ∙ (object_type table t object).1) from.1 right)
    void_right t from object void Null right = tt
    void_right t from object void (Id u) right = tt
    void_right t from object void Indeterminate right = tt

    -- ---- from `void *`

    -- the type of the place of a part is that of the part
    part_type : (u : ℕ) (at : PointerTo) (right : IsPointerRight program labels es contexts.homes at (value program a) c) → is_part_of_type table s u at ≡ true → ty right.origin ≡ u
    part_type u at right h =
        let there = chained (λ (object : Object). type_along table object.length at.part.path object.ty) (slice_get s.objects at.part.object) u (some_equal _ u h) in
        let object = there.0 in
        let of_object = sound.objects at.part.object object right.home there.1 right.lives_in in
        let root : IsRootType program right.home.root object.ty = subst (λ r. IsRootType program r object.ty) of_object.root of_object.typed in
        let own : object.ty ≡ right.place.ty = one_type program ok.table ok.lowered (Root right.home.root) object.ty right.place.ty root right.place.of in
        let node = typed_node table object.length object.ty at.part.path u there.2 in
        let leads = subst (λ t. node_along table (first (Start t)) at.part.path ≡ Some node.0) own node.1 in
        ap (λ (n : Node). n.type) (same_node (node_of table right.origin.node) node.0 (sym right.place.leads ∙ leads)) ∙ node.2

    typed_pointer : (t : ℕ) → PointsToForm program a Void → (on : PointsTo program p t) → is_void (type_at table t) ≡ false → (at : PointerTo) → GivenPointer at → is_part_of_type table s on.0 at ≡ true → RightPointer at
    typed_pointer t void on plain at right is_part = from_void_right program labels es ok contexts.homes p f a to c stands converts at right void on.0 on.1 (void_too table ok.table on.0 t on.2 ∙ plain) (same (part_type on.0 at right is_part))

    typed_right : (t : ℕ) → PointsToForm program a Void → (on : PointsTo program p t) → IsObjectType table t → (x v : Value) → Given x → value_of (to_pointer table s true on.0 x) ≡ Some v → Right x
    typed_right t void on object (Number k n) v right h = tt
    typed_right t void on object (Pointer at) v right h = λ has. typed_pointer t void on (object_type table t object).0 at (right (has_pointer program labels es ok a void.0 void.1)) (right_type table s on.0 at v h)
    typed_right t void on object (Function g) v right h = absurd (no_function g void.0 (ap (λ o. is_function (unwrap_or o Void)) void.2) void.1 right)
    typed_right t void on object Null v right h = tt
    typed_right t void on object (Id u) v right h = tt
    typed_right t void on object Indeterminate v right h = tt

    -- a value of a `void *` is converted to a pointer to another type
    is_from_there : (t : ℕ) → PointsToForm program a Void → (on : PointsTo program p t) → IsObjectType table t → is_from_void table s (value_type_at program a) on.0 ≡ true
    is_from_there t void on object =
        let form : option_and_then (form_of table) (value_type_at program a) ≡ Some (PointerType void.0) = ap (option_and_then (form_of table)) void.1.1 ∙ void.1.2 in
        let from : is_void_pointer table (value_type_at program a) ≡ true = ap (λ o. option_map_or is_void_form (option_and_then (form_of table) (option_and_then target_of o)) false) form ∙ ap (λ o. option_map_or is_void_form o false) void.2 in
        let other : option_map_or is_void_form (form_of table on.0) false ≡ false = not_void (form_of table on.0) (void_too table ok.table on.0 t on.2 ∙ (object_type table t object).0) in
        ap (λ b. b && not (option_map_or is_void_form (form_of table on.0) false)) from ∙ ap not other

    -- ---- what a conversion gives is right

    abbrev from_void : ℕ → Bool
    from_void t = is_from_void table s (value_type_at program a) t

    pub converted_right : (x v : Value) → Given x → value_of (converted_to table s (value_type_at program a) to x) ≡ Some v → Right v
    converted_right x v right h = by types.1
      where
        -- by the form of its type
        form_gives : (form : CType) → GivesForm program p form → value_of (converted table s from_void form x) ≡ Some v
        form_gives form gives =
            let is : gives.0 ≡ to = same_Some gives.0 to (sym gives.1 ∙ types.0) in
            sym (ap (λ o. value_of (option_and_then (λ form. converted table s from_void form x) o)) (subst (λ t. IsForm table t form) is gives.2)) ∙ h

        by : IsConversion program a p → Right v
        by (of_numbers from on) = plain_right program labels es contexts.homes (value program p) c v (to_kind_plain on.0 x v (form_gives (Int on.0) on.1))
        by (of_truth from on) = plain_right program labels es contexts.homes (value program p) c v (to_kind_plain kind.Bool x v (form_gives (Int kind.Bool) on))
        by (of_same t from on) = subst Right (same_value table s on.0 (from_void on.0) x v (form_gives (PointerType on.0) on.1)) (kept_right t from on x right)
        by (of_void t from object void) = subst Right (same_value table s void.0 (from_void void.0) x v (form_gives (PointerType void.0) void.1)) (void_right t from object void x right)
        by (of_typed t void on object) =
            let gives = form_gives (PointerType on.0) on.1 in
            let from = subst (λ b. value_of (to_pointer table s b on.0 x) ≡ Some v) (is_from_there t void on object) gives in
            subst Right (same_value table s on.0 (from_void on.0) x v gives) (typed_right t void on object x v right from)
        by (of_threads from on) = plain_right program labels es contexts.homes (value program p) c v (to_id_plain x v (form_gives ThreadId on))
