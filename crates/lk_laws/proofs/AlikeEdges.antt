-- Edges join labels of types that are equal but for the sizes of arrays.
use Rattle.std.proofs.Common.{◌≡◌, ◌<◌, ◌⊎◌, ℕ, suc, zero, Bool, true, false, List, [], ◌∷◌, Option, Some, None, inl, inr, refl, sym, ap, subst, ◌∙◌, length, arith}
use Rattle.std.proofs.lemmas.Option.{none-some, slice_get_within, slice_get-map}
use Rattle.std.specs.List.{slice_get}
use Rattle.std.specs.Option.{option_map}
use Rattle.std.specs.Prelude.{unwrap_or}
use Rattle.lk_arith.specs.declared.operators.Op.{Op}
use Rattle.lk_arith.specs.declared.operators.Op.TheVariants as op
use Rattle.lk_base.specs.declared.kind.Kind.{Kind}
use Rattle.lk_base.specs.declared.kind.Kind.TheVariants as kind
use Rattle.lk_facts.specs.EdgeRules.{Of, In, Loc, Sub, value, target, place, result, parameter, code, allocated, Converts, Passes, Returns, Row, IsEdge}
use Rattle.lk_facts.specs.EdgeRules.Converts.{same as converts_same, to_void, from_void}
use Rattle.lk_facts.specs.EdgeRules.IsEdge.{row, argv, args, passed, given_back, forth, back as backwards, inside, results, parameters}
use Rattle.lk_facts.specs.LabelRules.{IsPart, IsWhole}
use Rattle.lk_facts.specs.Lowered.{IsLowered, IsArgument}
use Rattle.lk_facts.specs.Program.{root_of_function, parameter_of, result_of}
use Rattle.lk_facts.specs.Typed.{IsForm, IsRootType, IsHolderType, GivesForm, GivesNone, Gives, PointsTo, PointsToForm, AreGiven, AreAlike, Moves, IsComparison, IsShift, IsBinary, IsFunctionType, IsStartRoutine, IsAllocated, IsReturn, IsTyped, IsMember}
use Rattle.lk_facts.specs.Typed.AreGiven.{none as given_none, more as given_more}
use Rattle.lk_facts.specs.declared.action.Action.{Action}
use Rattle.lk_facts.specs.declared.action.Action.TheVariants as action
use Rattle.lk_facts.specs.declared.edge.Mark.{Mark}
use Rattle.lk_facts.specs.declared.edge.Mark.TheVariants.{Plain}
use Rattle.lk_facts.specs.declared.label_entry.LabelName.{LabelName}
use Rattle.lk_facts.specs.declared.program.Program.{Program}
use Rattle.lk_facts.specs.declared.root.Holder.{Holder}
use Rattle.lk_facts.specs.declared.root.Holder.TheVariants.{Root, Slot, Result, Point}
use Rattle.lk_laws.proofs.AlikeTypes.{back, joined, pointer_parts, array_parts, field_parts, least_alike, target_known, target_step, element_step, field_step, part_step, fields_alike, parts_alike}
use Rattle.lk_laws.specs.FlowLaws.{type_of}
use Rattle.lk_types.specs.Building.{IsTable, IsMadeOf}
use Rattle.lk_types.specs.Equal.{IsAlike}
use Rattle.lk_types.specs.Equal.IsEqualBut.{same}
use Rattle.lk_types.specs.Nodes.{Node, IsBase, node_of}
use Rattle.lk_types.specs.Table.{Table, type_at, fields_of, IsKnown}
use Rattle.lk_types.specs.declared.c_type.CType.{CType}
use Rattle.lk_types.specs.declared.c_type.CType.TheVariants.{Void, Int, Pointer, Array, Struct, Function}
use Rattle.lk_types.specs.declared.node.Sel.{Sel}
use Rattle.lk_types.specs.declared.node.Sel.TheVariants.{Target, Element, Field, Part}

module _ (program : Program) (is : IsTable program.types) (lowered : IsLowered program) where
  abbrev table : Table
  table = program.types

  abbrev Alike : ℕ → ℕ → Type 0
  Alike a b = IsAlike program.types.types a b

  abbrev ty : LabelName → ℕ
  ty x = type_of program x

  abbrev at : LabelName → Node
  at x = node_of program.types x.node

  -- the labels of X have types that are alike to t
  abbrev pub Have : (LabelName → Type 0) → ℕ → Type 0
  Have X t = (x : LabelName) → X x → Alike (ty x) t

  pub then : {a b c : ℕ} → Alike a b → Alike b c → Alike a c
  then h k = joined table.types h k

  turned : {a b : ℕ} → Alike a b → Alike b a
  turned h = back table.types h

  -- two that are alike to one
  meet : {a b c : ℕ} → Alike a c → Alike b c → Alike a b
  meet h k = then h (turned k)

  pub one_type : (h : Holder) (t u : ℕ) → IsHolderType program h t → IsHolderType program h u → t ≡ u
  one_type (Root r) t u h k = cc
  one_type (Slot f s) t u h k = cc
  one_type (Result f) t u h k = cc
  one_type (Point p) t u h k = cc

  pub whole : (h : Holder) (t : ℕ) → IsHolderType program h t → Have (IsWhole program h) t
  whole h t has x w = same (ap (λ (n : Node). n.type) w.start.first ∙ one_type h w.ty t w.has has)

  pub value_type : (p t : ℕ) → Gives program p t → Have (value program p) t
  value_type p t gives x w = then (whole (Point p) gives.0 gives.1 x w) gives.2

  part : {x y k l : LabelName} (s : Sel) → Alike (ty x) (ty y) → IsPart program x s k → IsPart program y s l → Alike (ty k) (ty l)
  part {x} {y} {k} {l} s alike h h' = parts_alike table is (at x) (at y) (at k) (at l) s alike h.steps.leads h'.steps.leads

  -- what is pointed to
  pointed : (x y : LabelName) (w t : ℕ) → Alike (ty x) w → IsForm table w (Pointer t) → IsPart program x Target y → Alike (ty y) t
  pointed x y w t alike form h =
      let one = target_step table is (at x) (at y) h.steps.leads in
      then one.alike (pointer_parts table.types (ty x) w one.to t one.pointer form alike)

  -- what is in an array
  element : (x y : LabelName) (w t n : ℕ) → Alike (ty x) w → IsForm table w (Array t n) → IsPart program x Element y → Alike (ty y) t
  element x y w t n alike form h =
      let one = element_step table is (at x) (at y) h.steps.leads in
      array_parts table.types (ty x) w (ty y) t one.size n one.array form alike

  -- a field
  field : (x y : LabelName) (w k t : ℕ) → Alike (ty x) w → slice_get (fields_of table (type_at table w)) k ≡ Some t → IsPart program x (Field k) y → Alike (ty y) t
  field x y w k t alike has h = field_parts table.types (fields_alike table is (ty x) w alike) k (ty y) t (field_step table is (at x) (at y) k h.steps.leads) has

  pub target_type : (p t : ℕ) → PointsTo program p t → Have (target program p) t
  target_type p t points y h = then (pointed h.0 y points.1.0 points.0 (whole (Point p) points.1.0 points.1.1 h.0 h.1) points.1.2 h.2) points.2

  pub pointed_form : (p : ℕ) (form : CType) (points : PointsToForm program p form) → Have (target program p) points.0
  pointed_form p form points y h = pointed h.0 y points.1.0 points.0 (whole (Point p) points.1.0 points.1.1 h.0 h.1) points.1.2 h.2

  loc : {mark m : Mark} {X Y : LabelName → Type 0} {u v : LabelName} (t : ℕ) → Have X t → Have Y t → Loc program mark X Y u v m → Alike (ty u) (ty v)
  loc {u = u} {v = v} t one two h = meet (one u h.1) (two v h.2)

  sub : {mark m : Mark} {X Y : LabelName → Type 0} {u v : LabelName} (t : ℕ) → Have X t → Have Y t → Sub program mark X Y u v m → Alike (ty u) (ty v)
  sub t one two h = part Target (meet (one h.1.0 h.1.1) (two h.2.0 h.2.1)) h.1.2 h.2.2

  -- a number points to nothing
  no_pointer : (p : ℕ) (k : Kind) (y : LabelName) → GivesForm program p (Int k) → target program p y → ⊥
  no_pointer p k y gives h =
      let one = target_step table is (at h.0) (at y) h.2.steps.leads in
      let is_type : ty h.0 ≡ gives.0 = ap (λ (n : Node). n.type) h.1.start.first ∙ one_type (Point p) h.1.ty gives.0 h.1.has gives.1 in
      absurd (no_form (ty h.0) one.to k one.pointer (subst (λ t. IsForm table t (Int k)) (sym is_type) gives.2))
    where
      no_form : (t u : ℕ) (k : Kind) → IsForm table t (Pointer u) → IsForm table t (Int k) → ⊥
      no_form t u k h h' = absurd cc

  some_is : (x y : ℕ) → Some x ≡ Some y → x ≡ y
  some_is x y e = cc

  pub given : {operands types : List ℕ} → AreGiven program operands types → (k a : ℕ) → slice_get operands k ≡ Some a → (t : ℕ) × (slice_get types k ≡ Some t) × Gives program a t
  given given_none k a h = absurd (none-some a h)
  given (given_more x t xs ts gives rest) zero a h = (t, refl, subst (λ y. Gives program y t) (some_is x a h) gives)
  given (given_more x t xs ts gives rest) (suc k) a h = given rest k a h

  -- the types of what a function takes and gives, and of itself, where it has these
  pub record IsOf (g : ℕ) (form : CType) : Type 0 where
    pub takes : (k t : ℕ) → slice_get (fields_of table form) (suc k) ≡ Some t → Have (parameter program g (suc k)) t
    pub gives : (t : ℕ) → slice_get (fields_of table form) 0 ≡ Some t → Have (result program g) t

  read_there : {X : Type 0} (f : X → ℕ) (o : Option X) (y : ℕ) → option_map f o ≡ Some y → (x : X) × (o ≡ Some x)
  read_there f None y h = absurd (none-some y h)
  read_there f (Some x) y h = (x, refl)

  pub function_known : (g r : ℕ) → root_of_function program g ≡ Some r → g < length program.functions
  function_known g r h =
      let there = read_there (λ function. function.root) (slice_get program.functions g) r h in
      slice_get_within program.functions g there.0 there.1

  root_type_one : (r t u : ℕ) → IsRootType program r t → IsRootType program r u → t ≡ u
  root_type_one r t u h k = cc

  pub root_is_one : (g r q : ℕ) → root_of_function program g ≡ Some r → root_of_function program g ≡ Some q → r ≡ q
  root_is_one g r q h k = cc

  form_is_one : (t : ℕ) (f g : CType) → IsForm table t f → IsForm table t g → f ≡ g
  form_is_one t f g h k = cc

  pub one_form : (g : ℕ) (f h : CType) → IsFunctionType program g f → IsFunctionType program g h → f ≡ h
  one_form g f h one two = cc

  pub parameter_type : (g k : ℕ) (h : Holder) (t : ℕ) → parameter_of program g k ≡ Some h → IsHolderType program h t → Have (parameter program g k) t
  parameter_type g k h t at_holder has x w =
      let one : w.0 ≡ h = cc in
      whole h t has x (subst (λ h. IsWhole program h x) one w.2)

  pub result_type : (g t : ℕ) → ((u : ℕ) → result_of program g ≡ Some u → Alike u t) → Have (result program g) t
  result_type g t gives x w = then (same (ap (λ (n : Node). n.type) w.start.first)) (gives w.ty w.has)

  pub of_function : (g : ℕ) (form : CType) → IsFunctionType program g form → IsOf g form
  of_function g form typed =
      let function = lowered.functions g (function_known g typed.0 typed.2) in
      let is_form : Function function.result function.params function.dots ≡ form = one_form g (Function function.result function.params function.dots) form function.of typed in
      subst (IsOf g) is_form (record {
        takes = λ k t has. (let takes = function.takes k t has in λ x w. then (parameter_type g (suc k) takes.0 takes.1 takes.2 takes.4 x w) takes.5);
        gives = λ t has. (let is_result : function.result ≡ t = cc in subst (Have (result program g)) is_result (result_type g function.result function.gives));
      })

  -- the label of a function
  pub code_type : (g : ℕ) (form : CType) → IsFunctionType program g form → (u : LabelName) → code program g u → (t : ℕ) × Alike (ty u) t × IsForm table t form
  code_type g form typed u h =
      let one : h.0 ≡ typed.0 = root_is_one g h.0 typed.0 h.1 typed.2 in
      (typed.1.ty, whole (Root typed.0) typed.1.ty (typed.1, typed.3, refl) u (subst (λ r. IsWhole program (Root r) u) one h.2), typed.4)

  pub field_of_form : (w k t : ℕ) (form : CType) → IsForm table w form → slice_get (fields_of table form) k ≡ Some t → slice_get (fields_of table (type_at table w)) k ≡ Some t
  field_of_form w k t form h has = subst (λ f. slice_get (fields_of table f) k ≡ Some t) (sym (ap (λ o. unwrap_or o Void) h)) has

  pub code_has : (g r t : ℕ) → root_of_function program g ≡ Some r → IsRootType program r t → Have (code program g) t
  code_has g r t of has u h = whole (Root r) t has u (subst (λ q. IsWhole program (Root q) u) (root_is_one g h.0 r h.1 of) h.2)

  -- a step into what a value points to
  pub into_element : (X : LabelName → Type 0) (w e n : ℕ) → Have X w → IsForm table w (Array e n) → Have (In program X Element) e
  into_element X w e n have form u h = element h.0 u w e n (have h.0 h.1) form h.2.part

  pub into_field : (X : LabelName → Type 0) (w k t : ℕ) → Have X w → slice_get (fields_of table (type_at table w)) k ≡ Some t → Have (In program X (Field k)) t
  into_field X w k t have has u h = field h.0 u w k t (have h.0 h.1) has h.2.part

  pub into_part : (X : LabelName → Type 0) (t : ℕ) → IsKnown table t → Have (In program X (Part t)) t
  into_part X t known u h = then (same (part_step table is (at h.0) (at u) t h.2.part.steps.leads)) (least_alike table is t known)

  pub of_field : (X : LabelName → Type 0) (w k t : ℕ) → Have X w → slice_get (fields_of table (type_at table w)) k ≡ Some t → Have (Of program X (Field k)) t
  of_field X w k t have has u h = field h.0 u w k t (have h.0 h.1) has h.2

  pub of_target : (X : LabelName → Type 0) (w t : ℕ) → Have X w → IsForm table w (Pointer t) → Have (Of program X Target) t
  of_target X w t have form u h = pointed h.0 u w t (have h.0 h.1) form h.2

  moved : (a b p : ℕ) {u v : LabelName} {m : Mark} → Moves program a b p → Sub program Plain (value program a) (value program p) u v m → Alike (ty u) (ty v)
  moved a b p {u} {v} moves h = meet (target_type a moves.0 moves.1 u h.1) (target_type p moves.0 moves.3 v h.2)

  number_or_moves : (a b p : ℕ) {u v : LabelName} {m : Mark} → (AreAlike program a b p ⊎ Moves program a b p) → Sub program Plain (value program a) (value program p) u v m → Alike (ty u) (ty v)
  number_or_moves a b p {v = v} (inl alike) h = absurd (no_pointer p alike.0 v alike.3 h.2)
  number_or_moves a b p (inr moves) h = moved a b p moves h

  compared : (a b p : ℕ) {u v : LabelName} {m : Mark} → IsComparison program a b p → Sub program Plain (value program a) (value program p) u v m → Alike (ty u) (ty v)
  compared a b p {v = v} (inl numbers) h = absurd (no_pointer p kind.Int v numbers.3 h.2)
  compared a b p {v = v} (inr pointers) h = absurd (no_pointer p kind.Int v pointers.3 h.2)

  computed : (a b p : ℕ) {u v : LabelName} {m : Mark} → AreAlike program a b p → Sub program Plain (value program a) (value program p) u v m → Alike (ty u) (ty v)
  computed a b p {v = v} alike h = absurd (no_pointer p alike.0 v alike.3 h.2)

  shifted : (a b p : ℕ) {u v : LabelName} {m : Mark} → IsShift program a b p → Sub program Plain (value program a) (value program p) u v m → Alike (ty u) (ty v)
  shifted a b p {v = v} shift h = absurd (no_pointer p shift.0 v shift.3 h.2)

  binary : (o : Op) (a b p : ℕ) {u v : LabelName} {m : Mark} → IsBinary program o a b p → Sub program Plain (value program a) (value program p) u v m → Alike (ty u) (ty v)
  binary op.Multiply a b p typed h = computed a b p typed h
  binary op.Divide a b p typed h = computed a b p typed h
  binary op.Remainder a b p typed h = computed a b p typed h
  binary op.Add a b p typed h = number_or_moves a b p typed h
  binary op.Subtract a b p {v = v} typed h = elim typed [ inl alike ↦ computed a b p alike h | inr other ↦ elim other [ inl moves ↦ moved a b p moves h | inr pointers ↦ absurd (no_pointer p kind.Long v pointers.3 h.2) ] ]
  binary op.ShiftLeft a b p typed h = shifted a b p typed h
  binary op.ShiftRight a b p typed h = shifted a b p typed h
  binary op.Less a b p typed h = compared a b p typed h
  binary op.Greater a b p typed h = compared a b p typed h
  binary op.LessOrEqual a b p typed h = compared a b p typed h
  binary op.GreaterOrEqual a b p typed h = compared a b p typed h
  binary op.Equal a b p typed h = compared a b p typed h
  binary op.NotEqual a b p typed h = compared a b p typed h
  binary op.And a b p typed h = computed a b p typed h
  binary op.Xor a b p typed h = computed a b p typed h
  binary op.Or a b p typed h = computed a b p typed h

  converted : (a p : ℕ) {u v : LabelName} {m : Mark} → Converts program a p u v m → Alike (ty u) (ty v)
  converted a p (converts_same s t from to alike h) = sub t (λ x w. then (whole (Point a) s from x w) alike) (whole (Point p) t to) h
  converted a p (to_void t gives points h) =
      loc t (of_target (value program a) gives.0 t (whole (Point a) gives.0 gives.1) gives.2) (into_part (target program p) t (target_known table is gives.0 t gives.2)) h
  converted a p (from_void t points gives h) =
      loc t (into_part (target program a) t (target_known table is gives.0 t gives.2)) (of_target (value program p) gives.0 t (whole (Point p) gives.0 gives.1) gives.2) h

  passes : (p g : ℕ) (operands : List ℕ) (res : ℕ) (params : List ℕ) (dots : Bool) {u v : LabelName} {m : Mark} → IsOf g (Function res params dots) → AreGiven program operands params → Passes program p g operands u v m → Alike (ty u) (ty v)
  passes p g operands res params dots of_g are h =
      let one = given are h.1 h.2 h.4 in
      sub one.0 (value_type h.2 one.0 one.2) (of_g.takes h.1 one.0 one.1) h.5

  gives_back : (p g : ℕ) (res : ℕ) {u v : LabelName} {mark m : Mark} → Have (result program g) res → (IsForm table res Void × GivesNone program p) ⊎ Gives program p res → Sub program mark (result program g) (value program p) u v m → Alike (ty u) (ty v)
  gives_back p g res have (inl none) h = absurd (none-some h.2.1.ty (sym none.1 ∙ h.2.1.has))
  gives_back p g res have (inr gives) h = sub res have (value_type p res gives) h

  returned : (f : ℕ) (a : Option ℕ) (u v : LabelName) (m : Mark) → IsReturn program f a → Returns program f a u v m → Alike (ty u) (ty v)
  returned f None u v m typed h = absurd h
  returned f (Some a) u v m typed h = sub typed.0 (value_type a typed.0 typed.2) (whole (Result f) typed.0 typed.1) h

  pub element_known : (w e n : ℕ) → IsForm table w (Array e n) → IsKnown table e
  element_known w e n form =
      let known : w < length table.types = slice_get_within table.types w (Array e n) form in
      let less : e < w = subst (IsMadeOf table w) (ap (λ o. unwrap_or o Void) form) (is.types w known).made_of in
      omega (arith, known)

  pub start_known : (h : Holder) (x : LabelName) (w : IsWhole program h x) → IsKnown table w.ty
  start_known h x w = subst (IsBase table) (ap (λ (n : Node). n.base) w.start.first) w.start.node.base

  allocates : (p r t : ℕ) (count : Option ℕ) (u v : LabelName) (m : Mark) → IsAllocated program p r t count → Loc program Plain (allocated program r count) (In program (target program p) (Part t)) u v m → Alike (ty u) (ty v)
  allocates p r t None u v m typed h =
      let has : IsRootType program r t = (typed.0, typed.1, typed.4) in
      let known = subst (IsKnown table) (one_type (Root r) h.1.ty t h.1.has has) (start_known (Root r) u h.1) in
      loc t (whole (Root r) t has) (into_part (target program p) t known) h
  allocates p r t (Some n) u v m typed h =
      let has : IsRootType program r typed.0.ty = (typed.0, typed.1, refl) in
      loc t (into_element (place program r) typed.0.ty t 0 (whole (Root r) typed.0.ty has) typed.4) (into_part (target program p) t (element_known typed.0.ty t 0 typed.4)) h

  pub members_of_form : (s k t : ℕ) → IsMember table s k t → slice_get (fields_of table (type_at table s)) k ≡ Some t
  members_of_form s k t member =
      field_of_form s k t (Struct member.0) member.1 (slice_get-map (λ member. member.ty) _ k ∙ ap (option_map (λ member. member.ty)) member.2.1 ∙ ap Some member.2.2)

  pub start_gives : (g a : ℕ) → (routine : IsStartRoutine program g) → PointsToForm program a Void → Gives program a routine.0
  start_gives g a routine points =
      let void : points.0 ≡ routine.1 = is.different points.0 routine.1 Void points.2 routine.2 in
      let pointer : points.1.0 ≡ routine.0 = is.different points.1.0 routine.0 (Pointer routine.1) (subst (λ t. IsForm table points.1.0 (Pointer t)) void points.1.2) routine.3 in
      (points.1.0, points.1.1, same pointer)

  row_alike : (p f : ℕ) (act : Action) (u v : LabelName) (m : Mark) → IsTyped program p f act → Row program p f act u v m → Alike (ty u) (ty v)
  row_alike p f (action.Value number t) u v m typed h = absurd h
  row_alike p f (action.Null t) u v m typed h = absurd h
  row_alike p f (action.Func g) u v m typed h = loc typed.1 (code_has g typed.0 typed.1 typed.2 typed.3) (target_type p typed.1 typed.4) h
  row_alike p f action.SelfId u v m typed h = absurd h
  row_alike p f (action.Root r) u v m typed h = loc typed.1.0 (whole (Root r) typed.1.0 typed.1.1) (target_type p typed.1.0 typed.1.2) h
  row_alike p f (action.Text r) u v m typed h = loc typed.0 (whole (Root r) typed.0 typed.1) (target_type p typed.0 typed.2) h
  row_alike p f (action.Field a k) u v m typed h =
      loc typed.1 (into_field (target program a) typed.0 k typed.1 (target_type a typed.0 typed.2) (members_of_form typed.0 k typed.1 typed.3)) (target_type p typed.1 typed.4) h
  row_alike p f (action.Index a b true) u v m typed h =
      loc typed.0 (into_element (target program a) typed.2.0 typed.0 typed.1 (pointed_form a (Array typed.0 typed.1) typed.2) typed.2.2) (target_type p typed.0 typed.4) h
  row_alike p f (action.Index a b false) u v m typed h = moved a b p typed h
  row_alike p f (action.Read a raw) u v m typed h = sub typed.0 (target_type a typed.0 typed.1) (value_type p typed.0 typed.2) h
  row_alike p f (action.Write a b raw) u v m typed h = sub typed.0 (value_type b typed.0 typed.2) (target_type a typed.0 typed.1) h
  row_alike p f (action.SlotRead s) u v m typed h = sub typed.0 (whole (Slot f s) typed.0 typed.1) (value_type p typed.0 typed.2) h
  row_alike p f (action.SlotWrite s a) u v m typed h = sub typed.0 (value_type a typed.0 typed.2) (whole (Slot f s) typed.0 typed.1) h
  row_alike p f (action.Unary o a) u v m typed h = absurd h
  row_alike p f (action.Binary o a b) u v m typed h = binary o a b p typed h
  row_alike p f (action.Compute operands t equal) u v m typed h = absurd h
  row_alike p f (action.Convert a t) u v m typed h = converted a p h
  row_alike p f (action.Branch a) u v m typed h = absurd h
  row_alike p f (action.Switch a cases) u v m typed h = absurd h
  row_alike p f action.Skip u v m typed h = absurd h
  row_alike p f (action.Call g operands) u v m typed h =
      let call = typed.2 in
      let of_g = of_function g (Function call.0 call.1 call.2) (subst (IsFunctionType program g) call.3 typed.1) in
      elim h [ inl pass ↦ passes p g operands call.0 call.1 call.2 of_g call.4 pass | inr give ↦ gives_back p g call.0 (of_g.gives call.0 refl) call.5 give.2 ]
  row_alike p f (action.PointerCall a operands) u v m typed h =
      let call = typed.2 in
      let form : IsForm table typed.1.0 (Function call.0 call.1 call.2) = subst (IsForm table typed.1.0) call.3 typed.1.2 in
      let have = pointed_form a typed.0 typed.1 in
      elim h [
        | inl pass ↦ (let one = given call.4 pass.0 pass.1 pass.2 in sub one.0 (value_type pass.1 one.0 one.2) (of_field (target program a) typed.1.0 (suc pass.0) one.0 have (field_of_form typed.1.0 (suc pass.0) one.0 (Function call.0 call.1 call.2) form one.1)) pass.3)
        | inr give ↦ gives_through a p call.0 (of_field (target program a) typed.1.0 0 call.0 have (field_of_form typed.1.0 0 call.0 (Function call.0 call.1 call.2) form refl)) call.5 give
      ]
    where
      gives_through : (a p res : ℕ) {u v : LabelName} {m : Mark} → Have (Of program (target program a) (Field 0)) res → (IsForm table res Void × GivesNone program p) ⊎ Gives program p res → Sub program Plain (Of program (target program a) (Field 0)) (value program p) u v m → Alike (ty u) (ty v)
      gives_through a p res have (inl none) h = absurd (none-some h.2.1.ty (sym none.1 ∙ h.2.1.has))
      gives_through a p res have (inr gives) h = sub res have (value_type p res gives) h
  row_alike p f (action.Return a) u v m typed h = returned f a u v m typed.0 h
  row_alike p f (action.Create g a) u v m typed h =
      let routine = typed.0 in
      passes p g (a ∷ []) routine.0 (routine.0 ∷ []) false (of_function g (Function routine.0 (routine.0 ∷ []) false) routine.4) (given_more a routine.0 [] [] (start_gives g a routine typed.1) given_none) h
  row_alike p f (action.StoreId a) u v m typed h = absurd h
  row_alike p f (action.Join a) u v m typed h = absurd h
  row_alike p f (action.Detach a) u v m typed h = absurd h
  row_alike p f action.ExitThread u v m typed h = absurd h
  row_alike p f action.ExitProcess u v m typed h = absurd h
  row_alike p f (action.Lock a) u v m typed h = absurd h
  row_alike p f (action.Unlock a) u v m typed h = absurd h
  row_alike p f (action.Release cond mutex) u v m typed h = absurd h
  row_alike p f (action.Retake a) u v m typed h = absurd h
  row_alike p f (action.Init a) u v m typed h = absurd h
  row_alike p f (action.Destroy a) u v m typed h = absurd h
  row_alike p f (action.Signal a) u v m typed h = absurd h
  row_alike p f (action.Allocate t count clear r) u v m typed h = allocates p r t count u v m typed.1 h
  row_alike p f (action.Free a) u v m typed h = absurd h
  row_alike p f (action.Scan a) u v m typed h = absurd h
  row_alike p f (action.Fill a spot named) u v m typed h = absurd h

  pub one_string : (s t : ℕ) → (c d : ℕ) → IsForm table s (Pointer c) → IsForm table c (Int kind.Char) → IsForm table t (Pointer d) → IsForm table d (Int kind.Char) → s ≡ t
  one_string s t c d sp cc' tp dc =
      let chars : c ≡ d = is.different c d (Int kind.Char) cc' dc in
      is.different s t (Pointer d) (subst (λ x. IsForm table s (Pointer x)) chars sp) tp

  -- what a function takes and gives, by a label of it
  code_field : (g k : ℕ) (y : LabelName) → Of program (code program g) (Field k) y → (form : CType) × IsOf g form × (slice_get (fields_of table form) k ≡ Some (ty y))
  code_field g k y h =
      let function = lowered.functions g (function_known g h.1.0 h.1.1) in
      let form : CType = Function function.result function.params function.dots in
      let typed : IsFunctionType program g form = function.of in
      let root : h.1.0 ≡ typed.0 = root_is_one g h.1.0 typed.0 h.1.1 typed.2 in
      let is_type : ty h.0 ≡ typed.1.ty = ap (λ (n : Node). n.type) h.1.2.start.first ∙ one_type (Root typed.0) h.1.2.ty typed.1.ty (subst (λ r. IsRootType program r h.1.2.ty) root h.1.2.has) (typed.1, typed.3, refl) in
      let there : IsForm table (ty h.0) form = subst (λ t. IsForm table t form) (sym is_type) typed.4 in
      (form, of_function g form typed, subst (λ f. slice_get (fields_of table f) k ≡ Some (ty y)) (ap (λ o. unwrap_or o Void) there) (field_step table is (at h.0) (at y) k h.2.steps.leads))

  joins : {u v : LabelName} {m : Mark} → IsEdge program u v m → Alike (ty u) (ty v)
  joins {u} {v} {m} (row p f act here of h) = row_alike p f act u v m (lowered.typed p f act here of) h
  joins {u} {v} (argv r of_root h) =
      let array = subst (λ k. IsArgument program k of_root.0.ty) of_root.2 (lowered.arguments r of_root.0 of_root.1) in
      let parameter' = h.2 in
      let points = lowered.argv parameter'.1.0 parameter'.1.2.ty parameter'.1.1 parameter'.1.2.has in
      let strings = one_string array.0 points.0 array.3.0 points.2.0 array.3.1 array.3.2 points.2.1 points.2.2 in
      loc array.0 (into_element (place program r) of_root.0.ty array.0 array.1 (whole (Root r) of_root.0.ty (of_root.0, of_root.1, refl)) array.2)
      (of_target (parameter program program.main 2) parameter'.1.2.ty array.0 (parameter_type program.main 2 parameter'.1.0 parameter'.1.2.ty parameter'.1.1 parameter'.1.2.has)
      (subst (λ s. IsForm table parameter'.1.2.ty (Pointer s)) (sym strings) points.1)) h
  joins {u} {v} (args r q of_root of_pointers h) =
      let chars = subst (λ k. IsArgument program k of_root.0.ty) of_root.2 (lowered.arguments r of_root.0 of_root.1) in
      let array = subst (λ k. IsArgument program k of_pointers.0.ty) of_pointers.2 (lowered.arguments q of_pointers.0 of_pointers.1) in
      let one = is.different array.3.0 chars.0 (Int kind.Char) array.3.2 chars.3 in
      loc chars.0 (into_element (place program r) of_root.0.ty chars.0 chars.1 (whole (Root r) of_root.0.ty (of_root.0, of_root.1, refl)) chars.2)
      (of_target (In program (place program q) Element) array.0 chars.0 (into_element (place program q) of_pointers.0.ty array.0 array.1 (whole (Root q) of_pointers.0.ty (of_pointers.0, of_pointers.1, refl)) array.2)
      (subst (λ c. IsForm table array.0 (Pointer c)) one array.3.1)) h
  joins (passed g i k site h) =
      let own = code_field g (suc k) h.1.0 h.1.1 in
      part Target (turned (own.1.takes k (ty h.1.0) own.2 h.2.0 h.2.1)) h.1.2 h.2.2
  joins (given_back g i site h) =
      let own = code_field g 0 h.2.0 h.2.1 in
      part Target (own.1.gives (ty h.2.0) own.2 h.1.0 h.1.1) h.1.2 h.2.2
  joins (forth e x y) = part Target (joins e) x y
  joins (backwards e x y) = turned (part Target (joins e) x y)
  joins (inside s e x y) = part s (joins e) x.part y.part
  joins (results e x y) = part Target (part (Field 0) (joins e) x.points.1 y.points.1) x.points.2 y.points.2
  joins (parameters k e x y) = turned (part Target (part (Field (suc k)) (joins e) x.points.1 y.points.1) x.points.2 y.points.2)

pub join_alike : (program : Program) → IsTable program.types → IsLowered program → (u v : LabelName) (m : Mark) → IsEdge program u v m → IsAlike program.types.types (type_of program u) (type_of program v)
join_alike program is lowered u v m e = joins program is lowered e
