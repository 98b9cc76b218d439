-- What the rows of actions join is there.
use Rattle.std.proofs.Common.{◌≡◌, ◌⊎◌, ◌<◌, ℕ, suc, zero, Bool, true, false, List, [], ◌∷◌, Option, Some, None, inl, inr, refl, sym, ap, subst, ◌∙◌, length, get_or, arith}
use Rattle.std.specs.Option.{option_map, option_and_then}
use Rattle.std.proofs.lemmas.Bool.Decides.{nat_tests}
use Rattle.std.proofs.lemmas.Option.{none-some, same_Some, slice_get-get_or, slice_get_within}
use Rattle.std.specs.List.{slice_get, list_any, Contains}
use Rattle.std.specs.Prelude.{unwrap_or, not, nat_eq, ◌==◌, ◌||◌, ◌&&◌, if◌then◌else◌}
use Rattle.lk_facts.proofs.Sets.{All-got}
use Rattle.lk_facts.specs.EdgeRules.{Of, In, IsRootOf, value, target, place, slot, result, parameter, code, allocated}
use Rattle.lk_facts.specs.LabelRules.{IsPart, IsWhole, Steps, GivesPart, form_of, leads_inside, is_function}
use Rattle.lk_facts.specs.InRange.{IsInRange, IsRootInRange, sizes_of}
use Rattle.lk_facts.specs.Labels.{name_with}
use Rattle.lk_facts.specs.Lowered.{IsLowered, IsArgument}
use Rattle.lk_arith.specs.declared.operators.Op.{Op}
use Rattle.lk_arith.specs.declared.operators.Op.TheVariants as op
use Rattle.lk_base.specs.declared.kind.Kind.{Kind}
use Rattle.lk_base.specs.declared.kind.Kind.TheVariants as kind
use Rattle.lk_facts.specs.Program.{action_at, root_at, root_of_function, result_of, parameter_of}
use Rattle.lk_facts.specs.Typed.{IsForm, IsHolderType, IsRootType, GivesForm, GivesNone, Gives, PointsTo, PointsToForm, AreAlike, Moves, Compares, IsShift, IsComparison, IsBinary, IsSlot, IsFunctionType, AreGiven, IsAllocated, IsReturn, IsTyped, IsFunctionTyped}
use Rattle.lk_facts.specs.declared.action.Action.{Action}
use Rattle.lk_facts.specs.declared.action.Action.TheVariants as action
use Rattle.lk_facts.specs.declared.function.Function.{Function as FunctionOf}
use Rattle.lk_facts.specs.declared.label_entry.LabelName.{LabelName}
use Rattle.lk_facts.specs.declared.program.Program.{Program}
use Rattle.lk_facts.specs.declared.root.Holder.{Holder}
use Rattle.lk_facts.specs.declared.root.Holder.TheVariants.{Root, Slot, Result, Point}
use Rattle.lk_facts.specs.declared.root.Root.{Root as RootOf}
use Rattle.lk_facts.specs.declared.root.RootKind.{RootKind}
use Rattle.lk_facts.specs.declared.root.RootKind.TheVariants.{Argv, Args}
use Rattle.lk_laws.proofs.AlikeEdges.{Have, whole, value_type, target_type, pointed_form, code_has, of_function, given, function_known, members_of_form, field_of_form, start_gives, root_is_one, one_type, one_form, of_field, element_known, parameter_type, into_element}
use Rattle.lk_laws.proofs.AlikeTypes.{back, known_form, fields_alike, field_step, target_known}
use Rattle.lk_laws.proofs.NodesThere.{target_there, element_there, field_there, pointer_too, array_too, field_too, fielded_known, function_too}
use Rattle.lk_laws.proofs.VoidNodes.{points_to_tag, void_too}
use Rattle.lk_laws.specs.FlowLaws.{type_of}
use Rattle.lk_laws.specs.RowLaws.{HasOne, Joins, HasPointer, JoinsTargets, JoinsConverted, JoinsArguments, JoinsReturned, RowJoins, JoinsAsValue, GivesEdges}
use Rattle.lk_types.proofs.NodeLemmas.{first_id, first_node, first_is_node, tag_base, none_past}
use Rattle.lk_types.specs.Building.{IsTable}
use Rattle.lk_types.specs.Equal.{IsAlike}
use Rattle.lk_types.specs.Equal.IsEqualBut.{same, pointers, arrays, functions}
use Rattle.lk_types.specs.Nodes.{Node, IsNode, node_of, first, has_part}
use Rattle.lk_types.specs.Table.{Table, type_at, least_of, fields_of, IsKnown}
use Rattle.lk_types.specs.Walks.{is_void}
use Rattle.lk_types.specs.declared.c_type.CType.{CType}
use Rattle.lk_types.specs.declared.c_type.CType.TheVariants.{Void, Int, Pointer, Array, Struct, Function}
use Rattle.lk_types.specs.declared.node.Base.TheVariants.{Start, Tag}
use Rattle.lk_types.specs.declared.node.NodeId.{NodeId}
use Rattle.lk_types.specs.declared.node.Sel.{Sel}
use Rattle.lk_types.specs.declared.node.Sel.TheVariants.{Target, Element, Field, Part}

or_true : (b c : Bool) → c ≡ true → (b || c) ≡ true
or_true true c h = refl
or_true false c h = h

listed : (xs : List ℕ) (u k : ℕ) → slice_get xs k ≡ Some u → list_any (λ v. v == u) xs ≡ true
listed [] u k h = absurd (none-some u h)
listed (x ∷ xs) u zero h = let same_one = same_Some x u h in let e : nat_eq x u ≡ true = grind (arith, nat_tests, same_one) in ap (λ b. b || list_any (λ v. v == u) xs) e
listed (x ∷ xs) u (suc k) h = or_true (nat_eq x u) (list_any (λ v. v == u) xs) (listed xs u k h)

listed_part : (xs : List ℕ) (u : ℕ) → Contains xs u → list_any (λ v. v == u) xs ≡ true
listed_part xs u h = listed xs u h.0 (slice_get-get_or xs h.0 u h.1 ∙ ap Some h.2)

module _ (program : Program) (is : IsTable program.types) (lowered : IsLowered program) where
  abbrev table : Table
  table = program.types

  abbrev Alike : ℕ → ℕ → Type 0
  Alike a b = IsAlike program.types.types a b

  abbrev ty : LabelName → ℕ
  ty x = type_of program x

  abbrev Of-type : (LabelName → Type 0) → ℕ → Type 0
  Of-type X t = Have program is lowered X t

  -- one of X, which stands for a node
  record Standing (X : LabelName → Type 0) : Type 0 where
    name : LabelName
    of : X name
    node : IsNode table name.node

  one : {X : LabelName → Type 0} → Standing X → HasOne program X
  one s = (s.name, s.of)

  stands : (h : Holder) (t : ℕ) → IsHolderType program h t → IsKnown table t → Standing (IsWhole program h)
  stands h t has known =
      let ok = first_is_node table (Start t) known in
      record { name = name_with h (first_id (Start t)); of = record { holder = refl; ty = t; has = has; start = record { node = ok; first = first_node table (Start t) } }; node = ok }

  part_of : (x : LabelName) (n : NodeId) (s : Sel) → Steps table x.node s n → IsPart program x s (name_with x.holder n)
  part_of x n s steps = record { holder = refl; steps = steps }

  target_stands : {X : LabelName → Type 0} (w t : ℕ) → Standing X → Of-type X w → IsForm table w (Pointer t) → Standing (Of program X Target)
  target_stands w t x have form =
      let pointer = pointer_too table is w (ty x.name) t (back table.types (have x.name x.of)) form in
      let there = target_there table is x.name.node x.node pointer.0 pointer.1 in
      record { name = name_with x.name.holder there.0; of = (x.name, x.of, part_of x.name there.0 Target there.1); node = there.1.node }

  -- where X and Y are of one type, and are there where that is a pointer type
  joins_targets : (X Y : LabelName → Type 0) (w : ℕ) → Of-type X w → Of-type Y w → ((t : ℕ) → IsForm table w (Pointer t) → Standing X) → ((t : ℕ) → IsForm table w (Pointer t) → Standing Y) → JoinsTargets program X Y
  joins_targets X Y w have have' there there' pointer = of (w_pointer pointer)
    where
      w_pointer : (HasPointer program X ⊎ HasPointer program Y) → (t : ℕ) × IsForm table w (Pointer t)
      w_pointer (inl x) = pointer_too table is (ty x.0) w x.2.0 (have x.0 x.1) x.2.1
      w_pointer (inr y) = pointer_too table is (ty y.0) w y.2.0 (have' y.0 y.1) y.2.1

      of : ((t : ℕ) × IsForm table w (Pointer t)) → Joins program (Of program X Target) (Of program Y Target)
      of form = (one (target_stands w form.0 (there form.0 form.1) have form.1), one (target_stands w form.0 (there' form.0 form.1) have' form.1))

  alike_known : {a b : ℕ} → Alike a b → IsKnown table a → IsKnown table b
  alike_known (same e) known = subst (IsKnown table) e known
  alike_known (pointers {t = t} at bt h) known = known_form table is _ (Pointer t) bt
  alike_known (arrays {t = t} {m = m} at bt h sizes) known = known_form table is _ (Array t m) bt
  alike_known (functions {s = s} {qs = qs} {dots = dots} at bt h hs) known = known_form table is _ (Function s qs dots) bt

  value_stands : (p : ℕ) (form : CType) → GivesForm program p form → Standing (value program p)
  value_stands p form gives = stands (Point p) gives.0 gives.1 (known_form table is gives.0 form gives.2)

  target_of_point : (p t : ℕ) → PointsTo program p t → Standing (target program p)
  target_of_point p t points = target_stands points.1.0 points.0 (value_stands p (Pointer points.0) points.1) (whole program is lowered (Point p) points.1.0 points.1.1) points.1.2

  target_of_form : (p : ℕ) (form : CType) → PointsToForm program p form → Standing (target program p)
  target_of_form p form points = target_stands points.1.0 points.0 (value_stands p (Pointer points.0) points.1) (whole program is lowered (Point p) points.1.0 points.1.1) points.1.2

  -- of a pointer type, a holder of an alike type stands
  holder_stands : (h : Holder) (u w t : ℕ) → IsHolderType program h u → Alike u w → IsForm table w (Pointer t) → Standing (IsWhole program h)
  holder_stands h u w t has alike form =
      let pointer = pointer_too table is w u t (back table.types alike) form in
      stands h u has (known_form table is u (Pointer pointer.0) pointer.1)

  gives_stands : (p w t : ℕ) → Gives program p w → IsForm table w (Pointer t) → Standing (value program p)
  gives_stands p w t gives form = holder_stands (Point p) gives.0 w t gives.1 gives.2 form

  element_stands : {X : LabelName → Type 0} (w e n : ℕ) → Standing X → Of-type X w → IsForm table w (Array e n) → Standing (In program X Element)
  element_stands w e n x have form =
      let array = array_too table is w (ty x.name) e n (back table.types (have x.name x.of)) form in
      let there = element_there table is x.name.node x.node array.0 array.1 array.2 in
      record { name = name_with x.name.holder there.0; of = (x.name, x.of, record { inside = refl; part = part_of x.name there.0 Element there.1 }); node = there.1.node }

  field_node : {X : LabelName → Type 0} (w k t : ℕ) (x : Standing X) → Of-type X w → slice_get (fields_of table (type_at table w)) k ≡ Some t → (n : NodeId) × Steps table x.name.node (Field k) n
  field_node w k t x have at =
      let field = field_too table is (fields_alike table is w (ty x.name) (back table.types (have x.name x.of))) k t at in
      field_there table is x.name.node x.node k field.0 (fielded_known table is (ty x.name) k field.0 field.1) field.1

  field_stands : {X : LabelName → Type 0} (w k t : ℕ) → Standing X → Of-type X w → slice_get (fields_of table (type_at table w)) k ≡ Some t → Standing (Of program X (Field k))
  field_stands w k t x have at =
      let there = field_node w k t x have at in
      record { name = name_with x.name.holder there.0; of = (x.name, x.of, part_of x.name there.0 (Field k) there.1); node = there.1.node }

  member_stands : {X : LabelName → Type 0} (w k t : ℕ) → Standing X → Of-type X w → is_function (type_at table w) ≡ false → slice_get (fields_of table (type_at table w)) k ≡ Some t → Standing (In program X (Field k))
  member_stands w k t x have plain at =
      let there = field_node w k t x have at in
      let leads : leads_inside (form_of table x.name.node) (Field k) ≡ true = ap not (function_too table is (ty x.name) w (have x.name x.of) ∙ plain) in
      record { name = name_with x.name.holder there.0; of = (x.name, x.of, record { inside = leads; part = part_of x.name there.0 (Field k) there.1 }); node = there.1.node }

  -- a Part of void that a point gives
  part_stands : (p q t : ℕ) → PointsToForm program p Void → IsKnown table t → GivesPart program q (least_of table t) → Standing (In program (target program p) (Part t))
  part_stands p q t points known gives =
      let x = target_of_form p Void points in
      let alike = pointed_form program is lowered p Void points x.name x.of in
      let void : is_void (type_at table (ty x.name)) ≡ true = void_too table is (ty x.name) points.0 alike ∙ ap (λ o. is_void (unwrap_or o Void)) points.2 in
      let tag = points_to_tag table is (node_of table x.of.0.node) (node_of table x.name.node) x.of.2.steps.leads void in
      let listed : has_part table t ≡ true = listed_part table.parts (least_of table t) ((lowered.parts.each (least_of table t)).1 (q, gives)) in
      let base = tag_base table is t known in
      let n : NodeId = first_id (Tag (least_of table t)) in
      let steps : Steps table x.name.node (Part t) n = record {
        node = first_is_node table (Tag (least_of table t)) base;
        leads = ap (λ b. if (b && has_part table t) then Some (first (Tag (least_of table t))) else None) tag ∙ ap (λ b. if b then Some (first (Tag (least_of table t))) else None) listed ∙ ap (λ (k : Node). Some k) (sym (first_node table (Tag (least_of table t))));
      } in
      record { name = name_with x.name.holder n; of = (x.name, x.of, record { inside = refl; part = part_of x.name n (Part t) steps }); node = steps.node }

  -- a field of a struct
  no_function : (s n : ℕ) → IsForm table s (Struct n) → is_function (type_at table s) ≡ false
  no_function s n form = ap (λ o. is_function (unwrap_or o Void)) form

module _ (program : Program) (is : IsTable program.types) (in_range : IsInRange program) (lowered : IsLowered program) where
  abbrev Stands : (LabelName → Type 0) → Type 0
  Stands X = Standing program is lowered X

  abbrev A : ℕ → ℕ → Type 0
  A a b = IsAlike program.types.types a b

  root_known : (r t : ℕ) → IsRootType program r t → IsKnown program.types t
  root_known r t has = subst (λ u. u < length program.types.types) has.2 (All-got (IsRootInRange (sizes_of program)) program.roots r has.0 in_range.parts.roots has.1).ty

  place_stands : (r t : ℕ) → IsRootType program r t → Stands (place program r)
  place_stands r t has = stands program is lowered (Root r) t has (root_known r t has)

  code_stands : (g r t : ℕ) → root_of_function program g ≡ Some r → IsRootType program r t → Stands (code program g)
  code_stands g r t own has = let root = place_stands r t has in record { name = root.name; of = (r, own, root.of); node = root.node }

  two : {X Y : LabelName → Type 0} → Stands X → Stands Y → Joins program X Y
  two x y = (one program is lowered x, one program is lowered y)

  point_target : (p t : ℕ) → PointsTo program p t → Stands (target program p)
  point_target p t points = target_of_point program is lowered p t points

  moves : (a b p : ℕ) → Moves program a b p → Joins program (target program a) (target program p)
  moves a b p m = two (point_target a m.0 m.1) (point_target p m.0 m.3)

  number_no_pointer : (p : ℕ) (k : Kind) → GivesForm program p (Int k) → HasPointer program (value program p) → ⊥
  number_no_pointer p k gives x =
      let is_type : type_of program x.0 ≡ gives.0 = ap (λ (n : Node). n.type) x.1.start.first ∙ one_type program is lowered (Point p) x.1.ty gives.0 x.1.has gives.1 in
      no_both (type_of program x.0) x.2.0 k x.2.1 (subst (λ t. IsForm program.types t (Int k)) (sym is_type) gives.2)
    where
      no_both : (t u : ℕ) (k : Kind) → IsForm program.types t (Pointer u) → IsForm program.types t (Int k) → ⊥
      no_both t u k h h' = absurd cc

  abbrev MovesWhere : (a p : ℕ) → Type 0
  MovesWhere a p = HasPointer program (value program p) → Joins program (target program a) (target program p)

  number_or_moves : (a b p : ℕ) → (AreAlike program a b p ⊎ Moves program a b p) → MovesWhere a p
  number_or_moves a b p (inl alike) x = absurd (number_no_pointer p alike.0 alike.3 x)
  number_or_moves a b p (inr m) x = moves a b p m

  computed : (a b p : ℕ) → AreAlike program a b p → MovesWhere a p
  computed a b p alike x = absurd (number_no_pointer p alike.0 alike.3 x)

  shifted : (a b p : ℕ) → IsShift program a b p → MovesWhere a p
  shifted a b p shift x = absurd (number_no_pointer p shift.0 shift.3 x)

  compared : (a b p : ℕ) → IsComparison program a b p → MovesWhere a p
  compared a b p (inl numbers) x = absurd (number_no_pointer p kind.Int numbers.3 x)
  compared a b p (inr both) x = absurd (number_no_pointer p kind.Int both.3 x)

  subtracted : (a b p : ℕ) → (AreAlike program a b p ⊎ Moves program a b p ⊎ Compares program kind.Long a b p) → MovesWhere a p
  subtracted a b p (inl alike) x = computed a b p alike x
  subtracted a b p (inr other) x = elim other [ inl m ↦ moves a b p m | inr both ↦ absurd (number_no_pointer p kind.Long both.3 x) ]

  binary : (o : Op) (a b p : ℕ) → IsBinary program o a b p → MovesWhere a p
  binary op.Multiply a b p typed = computed a b p typed
  binary op.Divide a b p typed = computed a b p typed
  binary op.Remainder a b p typed = computed a b p typed
  binary op.Add a b p typed = number_or_moves a b p typed
  binary op.Subtract a b p typed = subtracted a b p typed
  binary op.ShiftLeft a b p typed = shifted a b p typed
  binary op.ShiftRight a b p typed = shifted a b p typed
  binary op.Less a b p typed = compared a b p typed
  binary op.Greater a b p typed = compared a b p typed
  binary op.LessOrEqual a b p typed = compared a b p typed
  binary op.GreaterOrEqual a b p typed = compared a b p typed
  binary op.Equal a b p typed = compared a b p typed
  binary op.NotEqual a b p typed = compared a b p typed
  binary op.And a b p typed = computed a b p typed
  binary op.Xor a b p typed = computed a b p typed
  binary op.Or a b p typed = computed a b p typed

  -- where a value of a type is passed on to what has the type
  passed : (X Y : LabelName → Type 0) (t : ℕ) → Have program is lowered X t → Have program is lowered Y t → ((s : ℕ) → IsForm program.types t (Pointer s) → Stands X) → ((s : ℕ) → IsForm program.types t (Pointer s) → Stands Y) → JoinsTargets program X Y
  passed X Y t have have' x y = joins_targets program is lowered X Y t have have' x y

  given_value : (p t : ℕ) → Gives program p t → (s : ℕ) → IsForm program.types t (Pointer s) → Stands (value program p)
  given_value p t gives s form = gives_stands program is lowered p t s gives form

  slot_stands : (f n t s : ℕ) → IsSlot program f n t → IsForm program.types t (Pointer s) → Stands (slot program f n)
  slot_stands f n t s has form = holder_stands program is lowered (Slot f n) t t s has (same refl) form

  converted : (a p c : ℕ) → action_at program p ≡ Some (action.Convert a c) → JoinsConverted program a p
  converted a p c here = record {
    same = λ s t from to alike. passed (value program a) (value program p) t (value_type program is lowered a t (s, from, alike)) (value_type program is lowered p t (t, to, same refl)) (given_value a t (s, from, alike)) (given_value p t (t, to, same refl));
    to_void = λ t gives points nonvoid. two (point_target a t (t, gives, same refl)) (part_stands program is lowered p p t points (target_known program.types is gives.0 t gives.2) (GivesPart.to_void a c t here gives points nonvoid));
    from_void = λ t points gives nonvoid. two (part_stands program is lowered a p t points (target_known program.types is gives.0 t gives.2) (GivesPart.from_void a c t here points gives nonvoid)) (point_target p t (t, gives, same refl));
  }

  -- what holds a parameter of pointer type
  parameter_stands : (g : ℕ) (form : CType) → IsFunctionType program g form → (k t s : ℕ) → slice_get (fields_of program.types form) (suc k) ≡ Some t → IsForm program.types t (Pointer s) → Stands (parameter program g (suc k))
  parameter_stands g form typed k t s at pointer =
      let function = lowered.functions g (function_known program is lowered g typed.0 typed.2) in
      let is_form : Function function.result function.params function.dots ≡ form = one_form program is lowered g (Function function.result function.params function.dots) form function.of typed in
      let takes = function.takes k t (subst (λ f. slice_get (fields_of program.types f) (suc k) ≡ Some t) (sym is_form) at) in
      let holder = holder_stands program is lowered takes.0 takes.1 t s takes.4 takes.5 pointer in
      record { name = holder.name; of = (takes.0, takes.2, holder.of); node = holder.node }

  -- the result of a function, where it is a pointer
  result_stands : (g : ℕ) (form : CType) → IsFunctionType program g form → (t s : ℕ) → slice_get (fields_of program.types form) 0 ≡ Some t → IsForm program.types t (Pointer s) → Stands (result program g)
  result_stands g form typed t s at pointer =
      let known = function_known program is lowered g typed.0 typed.2 in
      let function = lowered.functions g known in
      let is_form : Function function.result function.params function.dots ≡ form = one_form program is lowered g (Function function.result function.params function.dots) form function.of typed in
      let is_result : function.result ≡ t = same_Some function.result t (subst (λ f. slice_get (fields_of program.types f) 0 ≡ Some t) (sym is_form) at) in
      let there = slice_get-get_or program.functions g (no_function_there g typed.0 typed.2) known in
      let has : result_of program g ≡ Some (get_or program.functions g (no_function_there g typed.0 typed.2)).result = ap (option_map (λ f. f.result)) there in
      holder_stands program is lowered (Result g) (get_or program.functions g (no_function_there g typed.0 typed.2)).result t s has (subst (λ r. A (get_or program.functions g (no_function_there g typed.0 typed.2)).result r) is_result (function.gives _ has)) pointer
    where
      no_function_there : (g r : ℕ) → root_of_function program g ≡ Some r → FunctionOf
      no_function_there g r h = of (slice_get program.functions g) h
        where
          of : (o : Option FunctionOf) → option_map (λ f. f.root) o ≡ Some r → FunctionOf
          of None e = absurd (none-some r e)
          of (Some f) e = f

  arguments : (p g : ℕ) (operands : List ℕ) (res : ℕ) (params : List ℕ) (dots : Bool) → IsFunctionType program g (Function res params dots) → AreGiven program operands params → JoinsArguments program p g operands
  arguments p g operands res params dots typed are i k a site at =
      let one_given = given program is lowered are k a at in
      passed (value program a) (parameter program g (suc k)) one_given.0 (value_type program is lowered a one_given.0 one_given.2) ((of_function program is lowered g (Function res params dots) typed).takes k one_given.0 one_given.1)
      (given_value a one_given.0 one_given.2) (λ s form. parameter_stands g (Function res params dots) typed k one_given.0 s one_given.1 form)

  -- what a call gives
  gives_result : (p res : ℕ) (X : LabelName → Type 0) → Have program is lowered X res → ((s : ℕ) → IsForm program.types res (Pointer s) → Stands X) → ((IsForm program.types res Void × GivesNone program p) ⊎ Gives program p res) → JoinsTargets program X (value program p)
  gives_result p res X have there (inl none) = passed X (value program p) res have (λ x v. absurd (none-some v.ty (sym none.1 ∙ v.has))) there (λ s form. absurd (void_or_pointer res s none.0 form))
    where
      void_or_pointer : (t s : ℕ) → IsForm program.types t Void → IsForm program.types t (Pointer s) → ⊥
      void_or_pointer t s h h' = absurd cc
  gives_result p res X have there (inr gives) = passed X (value program p) res have (value_type program is lowered p res gives) there (given_value p res gives)

  returned : (f : ℕ) (a : Option ℕ) → IsReturn program f a → JoinsReturned program f a
  returned f None typed = tt
  returned f (Some a) typed =
      passed (value program a) (result program f) typed.0 (value_type program is lowered a typed.0 typed.2) (whole program is lowered (Result f) typed.0 typed.1) (given_value a typed.0 typed.2) (λ s form. holder_stands program is lowered (Result f) typed.0 typed.0 s typed.1 (same refl) form)

  -- the elements of an array that is a root
  elements_stand : (r t n : ℕ) (root : RootOf) → root_at program r ≡ Some root → IsForm program.types root.ty (Array t n) → Stands (In program (place program r) Element)
  elements_stand r t n root at form =
      let has : IsRootType program r root.ty = (root, at, refl) in
      element_stands program is lowered root.ty t n (place_stands r root.ty has) (whole program is lowered (Root r) root.ty has) form

  allocated_stands : (p r t : ℕ) (count : Option ℕ) → IsAllocated program p r t count → Stands (allocated program r count)
  allocated_stands p r t None typed = place_stands r t (typed.0, typed.1, typed.4)
  allocated_stands p r t (Some n) typed = elements_stand r t 0 typed.0 typed.1 typed.4

  allocated_known : (p r t : ℕ) (count : Option ℕ) → IsAllocated program p r t count → IsKnown program.types t
  allocated_known p r t None typed = root_known r t (typed.0, typed.1, typed.4)
  allocated_known p r t (Some n) typed = element_known program is lowered typed.0.ty t 0 typed.4

  row_joins : (p f : ℕ) (act : Action) → action_at program p ≡ Some act → IsTyped program p f act → RowJoins program p f act
  row_joins p f (action.Value number t) here typed = tt
  row_joins p f (action.Null t) here typed = tt
  row_joins p f (action.Func g) here typed = two (code_stands g typed.0 typed.1 typed.2 typed.3) (point_target p typed.1 typed.4)
  row_joins p f action.SelfId here typed = tt
  row_joins p f (action.Root r) here typed = two (place_stands r typed.1.0 typed.1.1) (point_target p typed.1.0 typed.1.2)
  row_joins p f (action.Text r) here typed = two (place_stands r typed.0 typed.1) (point_target p typed.0 typed.2)
  row_joins p f (action.Field a k) here typed =
      two (member_stands program is lowered typed.0 k typed.1 (point_target a typed.0 typed.2) (target_type program is lowered a typed.0 typed.2) (no_function program is lowered typed.0 typed.3.0 typed.3.1) (members_of_form program is lowered typed.0 k typed.1 typed.3))
      (point_target p typed.1 typed.4)
  row_joins p f (action.Index a b true) here typed =
      two (element_stands program is lowered typed.2.0 typed.0 typed.1 (target_of_form program is lowered a (Array typed.0 typed.1) typed.2) (pointed_form program is lowered a (Array typed.0 typed.1) typed.2) typed.2.2) (point_target p typed.0 typed.4)
  row_joins p f (action.Index a b false) here typed = moves a b p typed
  row_joins p f (action.Read a raw) here typed =
      passed (target program a) (value program p) typed.0 (target_type program is lowered a typed.0 typed.1) (value_type program is lowered p typed.0 typed.2) (λ s form. point_target a typed.0 typed.1) (given_value p typed.0 typed.2)
  row_joins p f (action.Write a b raw) here typed =
      passed (value program b) (target program a) typed.0 (value_type program is lowered b typed.0 typed.2) (target_type program is lowered a typed.0 typed.1) (given_value b typed.0 typed.2) (λ s form. point_target a typed.0 typed.1)
  row_joins p f (action.SlotRead n) here typed =
      passed (slot program f n) (value program p) typed.0 (whole program is lowered (Slot f n) typed.0 typed.1) (value_type program is lowered p typed.0 typed.2) (λ s form. slot_stands f n typed.0 s typed.1 form) (given_value p typed.0 typed.2)
  row_joins p f (action.SlotWrite n a) here typed =
      passed (value program a) (slot program f n) typed.0 (value_type program is lowered a typed.0 typed.2) (whole program is lowered (Slot f n) typed.0 typed.1) (given_value a typed.0 typed.2) (λ s form. slot_stands f n typed.0 s typed.1 form)
  row_joins p f (action.Unary o a) here typed = tt
  row_joins p f (action.Binary o a b) here typed = binary o a b p typed
  row_joins p f (action.Compute operands t equal) here typed = tt
  row_joins p f (action.Convert a c) here typed = converted a p c here
  row_joins p f (action.Branch a) here typed = tt
  row_joins p f (action.Switch a cases) here typed = tt
  row_joins p f action.Skip here typed = tt
  row_joins p f (action.Call g operands) here typed =
      let call = typed.2 in
      let function : IsFunctionType program g (Function call.0 call.1 call.2) = subst (IsFunctionType program g) call.3 typed.1 in (
        arguments p g operands call.0 call.1 call.2 function call.4,
        gives_result p call.0 (result program g) ((of_function program is lowered g (Function call.0 call.1 call.2) function).gives call.0 refl) (λ s form. result_stands g (Function call.0 call.1 call.2) function call.0 s refl form) call.5,
      )
  row_joins p f (action.PointerCall a operands) here typed =
      let call = typed.2 in
      let form : IsForm program.types typed.1.0 (Function call.0 call.1 call.2) = subst (IsForm program.types typed.1.0) call.3 typed.1.2 in
      let have = pointed_form program is lowered a typed.0 typed.1 in
      let x = target_of_form program is lowered a typed.0 typed.1 in
      let field = λ (k t : ℕ) (at : slice_get (call.0 ∷ call.1) k ≡ Some t). field_of_form program is lowered typed.1.0 k t (Function call.0 call.1 call.2) form at in (
        λ k b at. (let one_given = given program is lowered call.4 k b at in
            passed (value program b) (Of program (target program a) (Field (suc k))) one_given.0 (value_type program is lowered b one_given.0 one_given.2) (of_field program is lowered (target program a) typed.1.0 (suc k) one_given.0 have (field (suc k) one_given.0 one_given.1))
            (given_value b one_given.0 one_given.2) (λ s pointer. field_stands program is lowered typed.1.0 (suc k) one_given.0 x have (field (suc k) one_given.0 one_given.1))),
        gives_result p call.0 (Of program (target program a) (Field 0)) (of_field program is lowered (target program a) typed.1.0 0 call.0 have (field 0 call.0 refl)) (λ s pointer. field_stands program is lowered typed.1.0 0 call.0 x have (field 0 call.0 refl)) call.5,
      )
  row_joins p f (action.Return a) here typed = returned f a typed.0
  row_joins p f (action.Create g a) here typed =
      let routine = typed.0 in
      let function = Function routine.0 (routine.0 ∷ []) false in
      let gives = start_gives program is lowered g a routine typed.1 in
      passed (value program a) (parameter program g 1) routine.0 (value_type program is lowered a routine.0 gives) ((of_function program is lowered g (Function routine.0 (routine.0 ∷ []) false) routine.4).takes 0 routine.0 refl)
      (given_value a routine.0 gives) (λ s form. parameter_stands g (Function routine.0 (routine.0 ∷ []) false) routine.4 0 routine.0 s refl form)
  row_joins p f (action.StoreId a) here typed = tt
  row_joins p f (action.Join a) here typed = tt
  row_joins p f (action.Detach a) here typed = tt
  row_joins p f action.ExitThread here typed = tt
  row_joins p f action.ExitProcess here typed = tt
  row_joins p f (action.Lock a) here typed = tt
  row_joins p f (action.Unlock a) here typed = tt
  row_joins p f (action.Release cond mutex) here typed = tt
  row_joins p f (action.Retake a) here typed = tt
  row_joins p f (action.Init a) here typed = tt
  row_joins p f (action.Destroy a) here typed = tt
  row_joins p f (action.Signal a) here typed = tt
  row_joins p f (action.Allocate t count clear r) here typed =
      two (allocated_stands p r t count typed.1) (part_stands program is lowered p p t typed.2 (allocated_known p r t count typed.1) (GivesPart.allocates t count clear r here))
  row_joins p f (action.Free a) here typed = tt
  row_joins p f (action.Scan a) here typed = tt
  row_joins p f (action.Fill a spot named) here typed = tt

  -- the type of a function's label
  code_is : (g r t : ℕ) → root_of_function program g ≡ Some r → IsRootType program r t → (y : LabelName) → code program g y → type_of program y ≡ t
  code_is g r t own has y h =
      let root = root_is_one program is lowered g h.0 r h.1 own in
      ap (λ (n : Node). n.type) h.2.start.first ∙ one_type program is lowered (Root r) h.2.ty t (subst (λ q. IsRootType program q h.2.ty) root h.2.has) has

  root_there : (g : ℕ) → g < length program.functions → (r : ℕ) × (root_of_function program g ≡ Some r)
  root_there g known = of (slice_get program.functions g) refl
    where
      of : (o : Option FunctionOf) → slice_get program.functions g ≡ o → (r : ℕ) × (root_of_function program g ≡ Some r)
      of None e = let past = none_past program.functions g e in absurd (omega (arith, past, known))
      of (Some f) e = (f.root, ap (option_map (λ f. f.root)) e)

  no_more : (g k : ℕ) (h : Holder) (params : List ℕ) → parameter_of program g (suc (length params)) ≡ None → slice_get params k ≡ None → parameter_of program g (suc k) ≡ Some h → ⊥
  no_more g k h params none past at = of (slice_get program.functions g) refl
    where
      of : (o : Option FunctionOf) → slice_get program.functions g ≡ o → ⊥
      of None e = none-some h (sym (ap (option_and_then (λ f. slice_get f.parameters k)) e) ∙ at)
      of (Some f) e =
          let beyond = none_past f.parameters (length params) (sym (ap (option_and_then (λ f. slice_get f.parameters (length params))) e) ∙ none) in
          let within = slice_get_within f.parameters k h (sym (ap (option_and_then (λ f. slice_get f.parameters k)) e) ∙ at) in
          let outside = none_past params k past in
          omega (arith, beyond, within, outside)

  as_value : (g : ℕ) → g < length program.functions → JoinsAsValue program g
  as_value g known =
      let function = lowered.functions g known in
      let typed = function.of in
      let has : IsRootType program typed.0 typed.1.ty = (typed.1, typed.3, refl) in
      let form = Function function.result function.params function.dots in
      let x = code_stands g typed.0 typed.1.ty typed.2 has in
      let have = code_has program is lowered g typed.0 typed.1.ty typed.2 has in
      let of_g = of_function program is lowered g form typed in
      let field = λ (k t : ℕ) (at : slice_get (function.result ∷ function.params) k ≡ Some t). field_of_form program is lowered typed.1.ty k t form typed.4 at in
      record {
        parameters = λ k. of k (slice_get function.params k) refl;
        result = passed (result program g) (Of program (code program g) (Field 0)) function.result (of_g.gives function.result refl) (of_field program is lowered (code program g) typed.1.ty 0 function.result have (field 0 function.result refl))
            (λ s pointer. result_stands g form typed function.result s refl pointer) (λ s pointer. field_stands program is lowered typed.1.ty 0 function.result x have (field 0 function.result refl));
      }
    where
      of : (k : ℕ) → (o : Option ℕ) → slice_get (lowered.functions g known).params k ≡ o → JoinsTargets program (Of program (code program g) (Field (suc k))) (parameter program g (suc k))
      of k (Some t) at pointer =
          let function = lowered.functions g known in
          let typed = function.of in
          let has : IsRootType program typed.0 typed.1.ty = (typed.1, typed.3, refl) in
          let form = Function function.result function.params function.dots in
          let have = code_has program is lowered g typed.0 typed.1.ty typed.2 has in
          let x = code_stands g typed.0 typed.1.ty typed.2 has in
          let field = field_of_form program is lowered typed.1.ty (suc k) t form typed.4 at in
          passed (Of program (code program g) (Field (suc k))) (parameter program g (suc k)) t (of_field program is lowered (code program g) typed.1.ty (suc k) t have field) ((of_function program is lowered g form typed).takes k t at)
          (λ s form. field_stands program is lowered typed.1.ty (suc k) t x have field) (λ s form. parameter_stands g (Function function.result function.params function.dots) typed k t s at form) pointer
      of k None past pointer =
          let function = lowered.functions g known in
          let typed = function.of in
          let has : IsRootType program typed.0 typed.1.ty = (typed.1, typed.3, refl) in
          elim pointer [
            | inl field ↦ (let step_type = field_step program.types is (node_of program.types field.1.0.node) (node_of program.types field.0.node) (suc k) field.1.2.steps.leads in
                let here = code_is g typed.0 typed.1.ty typed.2 has field.1.0 field.1.1 in
                absurd (none-some (type_of program field.0) (sym past ∙ sym (ap (λ f. slice_get (fields_of program.types f) (suc k)) (ap (λ o. unwrap_or o Void) typed.4)) ∙ sym (ap (λ u. slice_get (fields_of program.types (type_at program.types u)) (suc k)) here) ∙ step_type)))
            | inr holder ↦ absurd (no_more g k holder.1.0 function.params function.takes_no_more past holder.1.1)
          ]

  -- a function with a parameter is there
  holder_known : (g k : ℕ) (h : Holder) → parameter_of program g (suc k) ≡ Some h → g < length program.functions
  holder_known g k h at = of (slice_get program.functions g) refl
    where
      of : (o : Option FunctionOf) → slice_get program.functions g ≡ o → g < length program.functions
      of None e = absurd (none-some h (sym (ap (option_and_then (λ f. slice_get f.parameters k)) e) ∙ at))
      of (Some f) e = slice_get_within program.functions g f e

  -- what holds a parameter has a type
  holder_typed : (g k : ℕ) (h : Holder) → parameter_of program g (suc k) ≡ Some h → (t : ℕ) × IsHolderType program h t
  holder_typed g k h at = of (lowered.functions g (holder_known g k h at)) refl
    where
      of : (function : IsFunctionTyped program g) {o : Option ℕ} → slice_get function.params k ≡ o → (t : ℕ) × IsHolderType program h t
      of function {o = Some t} found =
          let takes = function.takes k t found in
          (takes.1, subst (λ holder. IsHolderType program holder takes.1) (same_Some takes.0 h (sym takes.2 ∙ at)) takes.4)
      of function {o = None} past = absurd (no_more g k h function.params function.takes_no_more past at)

  argument_type : (kind : RootKind) (r : ℕ) (own : IsRootOf program kind r) → IsArgument program kind own.0.ty
  argument_type kind r own = subst (λ k. IsArgument program k own.0.ty) own.2 (lowered.arguments r own.0 own.1)

  -- the pointers to the strings of main's arguments
  strings_joined : (r : ℕ) (h : Holder) → IsRootOf program Argv r → parameter_of program program.main 2 ≡ Some h → Joins program (In program (place program r) Element) (Of program (parameter program program.main 2) Target)
  strings_joined r h own at =
      let array = argument_type Argv r own in
      let has = holder_typed program.main 1 h at in
      let points = lowered.argv h has.0 at has.1 in
      let holder = holder_stands program is lowered h has.0 has.0 points.0 has.1 (same refl) points.1 in
      two (elements_stand r array.0 array.1 own.0 own.1 array.2)
      (target_stands program is lowered has.0 points.0 (record { name = holder.name; of = (h, at, holder.of); node = holder.node }) (parameter_type program is lowered program.main 2 h has.0 at has.1) points.1)

  -- the chars of these strings
  chars_joined : (r q : ℕ) → IsRootOf program Args r → IsRootOf program Argv q → Joins program (In program (place program r) Element) (Of program (In program (place program q) Element) Target)
  chars_joined r q own strings =
      let chars = argument_type Args r own in
      let array = argument_type Argv q strings in
      let has : IsRootType program q strings.0.ty = (strings.0, strings.1, refl) in
      two (elements_stand r chars.0 chars.1 own.0 own.1 chars.2)
      (target_stands program is lowered array.0 array.3.0 (elements_stand q array.0 array.1 strings.0 strings.1 array.2) (into_element program is lowered (place program q) strings.0.ty array.0 array.1 (whole program is lowered (Root q) strings.0.ty has) array.2) array.3.1)

pub rows_give : (program : Program) → IsTable program.types → IsInRange program → IsLowered program → GivesEdges program
rows_give program is in_range lowered = record {
  rows = λ p f act here at. row_joins program is in_range lowered p f act here (lowered.typed p f act here at);
  values = as_value program is in_range lowered;
  arguments = record { argv = strings_joined program is in_range lowered; args = chars_joined program is in_range lowered };
}
