-- What a source has at its nodes are the roots and slots of the program there.
use Rattle.std.proofs.Common.{arith, ap, sym, subst, ◌∙◌, ◌≡◌, ◌<◌, ◌+◌, ◌++◌, inl, inr, ℕ, zero, suc, List, [], ◌∷◌, length, get_or, slice_get, Bool, true, false, Option, None, Some, refl}
use Rattle.std.specs.Prelude.{nat_eq, ◌&&◌, if◌then◌else◌}
use Rattle.std.specs.List.{Contains}
use Rattle.std.specs.Option.{option_and_then, option_map, option_to_list}
use Rattle.std.proofs.lemmas.Bool.{and_from, and_parts, eqb-true, eq-eqb}
use Rattle.std.proofs.lemmas.List.Elements.{Contains-append_left, Contains-append_right, Contains-append_cases, Contains-push, Contains-push_cases}
use Rattle.std.proofs.lemmas.Option.{none-some, same_Some}
use Rattle.lk_facts.specs.declared.program.Program.{Program}
use Rattle.lk_facts.specs.declared.root.Root.{Root}
use Rattle.lk_facts.specs.declared.root.RootKind.TheVariants as kind
use Rattle.lk_lower_expr.specs.Lowering.{Numbers, declaration_of}
use Rattle.lk_lower_expr.specs.Names.{Node}
use Rattle.lk_lower_expr.specs.Owned.{Owned, text, allocation, hidden, owned_by, of_static_parts}
use Rattle.lk_lower_expr.specs.Programs as programs
use Rattle.lk_lower_expr.specs.Programs.{IsBody, IsDefined, IsRoot, IsSlot, IsAllocatedType, Owns, kind_of, type_here, of_object, of_function, of_local, of_text, of_allocation, of_declared, of_value, in_body, in_static, one, many}
use Rattle.lk_lower_parts.proofs.Rooted.{array_is, the_array}
use Rattle.lk_lower_parts.specs.Wanted
use Rattle.lk_lower_parts.specs.Wanted.{AreDifferent, Source, all_roots, array_in, entity_by, entity_here, entity_if, function_at, function_of, function_root, heap_root, is_array_of, local_by, local_root, locals_of, object_by, object_if, object_of, object_root, objects_from, owned_by_statics, plain_root, root_by, roots_in, roots_in_all, roots_of, slot_by, slot_of, slots_in, slots_of, slots_of_locals, text_root}
use Rattle.lk_lower_parts.specs.declared.roots.NodeRoot.{NodeRoot}
use Rattle.lk_lower_parts.specs.declared.roots.NodeSlot.{NodeSlot}
use Rattle.lk_typed.specs.declared.entity.Declaration.{Declaration}
use Rattle.lk_typed.specs.declared.entity.Entity.{Entity}
use Rattle.lk_typed.specs.declared.entity.EntityKind.{EntityKind}
use Rattle.lk_typed.specs.declared.entity.EntityKind.TheVariants as entity_kind
use Rattle.lk_typed.specs.declared.initialiser.StaticObject.{StaticObject}
use Rattle.lk_typed.specs.declared.unit.Body.{Body}
use Rattle.lk_typed.specs.declared.unit.Local.{Local}
use Rattle.lk_typed.specs.declared.whole.Linked.{Linked}
use Rattle.lk_typed.specs.declared.whole.Whole.{Whole}
use Rattle.lk_typed.specs.declared.whole.WholeEntity.{WholeEntity}
use Rattle.lk_types.specs.Table.{type_at}
use Rattle.lk_types.specs.declared.c_type.CType.{CType}
use Rattle.lk_types.specs.declared.c_type.CType.TheVariants.{Array}

-- ---- lists

none_in : {A : Type 0} (x : A) → Contains [] x → ⊥
none_in x there = absurd (omega (arith, there.1))

in_one : {A : Type 0} (y x : A) → Contains (y ∷ []) x → y ≡ x
in_one y x there = elim (Contains-push_cases [] y x there) [
  | inl none ↦ absurd (none_in x none)
  | inr same ↦ same
]

is_one : {A : Type 0} (x : A) → Contains (x ∷ []) x
is_one x = Contains-push [] x

pub contains_at : {A : Type 0} (xs : List A) (i : ℕ) (x : A) → slice_get xs i ≡ Some x → Contains xs x
contains_at [] i x at = absurd (none-some x at)
contains_at (y ∷ xs) zero x at = (0, omega arith, same_Some y x at)
contains_at (y ∷ xs) (suc i) x at = let there = contains_at xs i x at in (suc there.0, omega (arith, there.1), there.2)

pub at_contained : {A : Type 0} (xs : List A) (x : A) → Contains xs x → (i : ℕ) × (slice_get xs i ≡ Some x)
at_contained [] x there = absurd (none_in x there)
at_contained (y ∷ xs) x (zero, within, is) = (0, ap Some is)
at_contained (y ∷ xs) x (suc i, within, is) = let found = at_contained xs x (i, omega (arith, within), is) in (suc found.0, found.1)

module _ {A B : Type 0} (g : ℕ → List A → List B) (f : ℕ → A → List B) (of_nil : (e : ℕ) → g e [] ≡ []) (of_cons : (e : ℕ) (x : A) (xs : List A) → g e (x ∷ xs) ≡ f e x ++ g (e + 1) xs) where
  pub into : (xs : List A) (e i : ℕ) (x : A) (y : B) → slice_get xs i ≡ Some x → Contains (f (e + i) x) y → Contains (g e xs) y
  into [] e i x y at there = absurd (none-some x at)
  into (z ∷ xs) e zero x y at there = subst (λ all. Contains all y) (sym (of_cons e z xs)) (Contains-append_left (f e z) (g (e + 1) xs) y (first there))
    where
      here : e + 0 ≡ e
      here = omega arith

      first : Contains (f (e + 0) x) y → Contains (f e z) y
      first h = subst (λ n. Contains (f n z) y) here (subst (λ w. Contains (f (e + 0) w) y) (sym (same_Some z x at)) h)
  into (z ∷ xs) e (suc i) x y at there = subst (λ all. Contains all y) (sym (of_cons e z xs)) (Contains-append_right (f e z) (g (e + 1) xs) y (into xs (e + 1) i x y at (subst (λ n. Contains (f n x) y) behind there)))
    where
      behind : e + suc i ≡ (e + 1) + i
      behind = omega arith

  pub from : (xs : List A) (e : ℕ) (y : B) → Contains (g e xs) y → (i : ℕ) × (x : A) × (slice_get xs i ≡ Some x) × Contains (f (e + i) x) y
  from [] e y there = absurd (none_in y (subst (λ all. Contains all y) (of_nil e) there))
  from (z ∷ xs) e y there = elim (Contains-append_cases (f e z) (g (e + 1) xs) y (subst (λ all. Contains all y) (of_cons e z xs) there)) [
    | inl here ↦ (0, z, refl, subst (λ n. Contains (f n z) y) same here)
    | inr later ↦ let found = from xs (e + 1) y later in (suc found.0, found.1, found.2, subst (λ n. Contains (f n found.1) y) (behind found.0) found.3)
  ]
    where
      same : e ≡ e + 0
      same = omega arith

      behind : (i : ℕ) → (e + 1) + i ≡ e + suc i
      behind i = omega arith

-- ---- arrays

array_first : (form : CType) (forms : List CType) (t : ℕ) (b : Bool) → is_array_of t form ≡ b → (array_in forms t < length forms → slice_get forms (array_in forms t) ≡ Some (Array t 0)) → (if b then 0 else suc (array_in forms t)) < length (form ∷ forms) →
    slice_get (form ∷ forms) (if b then 0 else suc (array_in forms t)) ≡ Some (Array t 0)
array_first form forms t true is behind within = ap Some (the_array t form is)
array_first form forms t false is behind within = behind (omega (arith, within))

array_within : (forms : List CType) (t : ℕ) → array_in forms t < length forms → slice_get forms (array_in forms t) ≡ Some (Array t 0)
array_within [] t within = absurd (omega (arith, within))
array_within (form ∷ forms) t within = array_first form forms t (is_array_of t form) refl (array_within forms t) within

-- ---- the source

pub owns_source : (whole : Whole) (numbers : Numbers) (program : Program) (s : ℕ) (linked : Linked) (owned : Owned) (owner : Option ℕ) → Owns whole numbers program s linked owned owner → slice_get whole.sources s ≡ Some linked
owns_source whole numbers program s linked owned _ (in_body b body is has) = is.source
owns_source whole numbers program s linked owned _ (in_static object at among has) = at

module _ (at : Source) (numbers : Numbers) (program : Program) (source : slice_get at.whole.sources at.source ≡ Some at.linked) (functions : (b : ℕ) → numbers.function at.source b ≡ at.first + b)
    (points : (o : ℕ) → numbers.point at.source o 0 ≡ get_or at.points o 0) (different : AreDifferent program.types.types) where
  abbrev whole : Whole
  whole = at.whole

  abbrev linked : Linked
  linked = at.linked

  abbrev forms : List CType
  forms = program.types.types

  abbrev IsHere : NodeRoot → Type 0
  IsHere x = IsRoot whole numbers program at.source x.ordinal x.root

  around : (body : Option ℕ) → programs.function_around whole numbers program at.source body ≡ Wanted.function_around at body
  around None = refl
  around (Some b) = ap Some (functions b)

  -- ---- entities

  is_here : (e : ℕ) (here : WholeEntity) → here.defined ≡ Some (at.source, e) → entity_if at e here here.defined ≡ Some here
  is_here e here there = ap (entity_if at e here) there ∙ ap (λ b. if b then Some here else None) (and_from (nat_eq at.source at.source) (nat_eq e e) (eq-eqb at.source at.source refl) (eq-eqb e e refl))

  entity_is : (e number : ℕ) (here : WholeEntity) → slice_get linked.entities e ≡ Some number → slice_get whole.entities number ≡ Some here → here.defined ≡ Some (at.source, e) → entity_here at e ≡ Some here
  entity_is e number here numbered is there =
      ap (λ found. entity_by at e (option_and_then (slice_get whole.entities) found)) numbered ∙ ap (entity_by at e) is ∙ is_here e here there

  abbrev Found : (e : ℕ) → WholeEntity → Type 0
  Found e here = (number : ℕ) × (slice_get linked.entities e ≡ Some number) × (slice_get whole.entities number ≡ Some here) × (here.defined ≡ Some (at.source, e))

  defined_if : (e : ℕ) (is here : WholeEntity) (definition : Option (ℕ × ℕ)) → entity_if at e is definition ≡ Some here → (is ≡ here) × (definition ≡ Some (at.source, e))
  defined_if e is here None found = absurd (none-some here found)
  defined_if e is here (Some (s, n)) found = by_test (nat_eq s at.source && nat_eq n e) refl found
    where
      by_test : (b : Bool) → (nat_eq s at.source && nat_eq n e) ≡ b → (if b then Some is else None) ≡ Some here → (is ≡ here) × (◌≡◌ {A = Option (ℕ × ℕ)} (Some (s, n)) (Some (at.source, e)))
      by_test true passed so =
          let parts = and_parts (nat_eq s at.source) (nat_eq n e) passed in
          (same_Some is here so, ap (λ m. Some (m, n)) (eqb-true s at.source parts.0) ∙ ap (λ m. Some (at.source, m)) (eqb-true n e parts.1))
      by_test false passed so = absurd (none-some here so)

  found_by : (e : ℕ) (here : WholeEntity) (number : Option ℕ) (entity : Option WholeEntity) → slice_get linked.entities e ≡ number → option_and_then (slice_get whole.entities) number ≡ entity → entity_by at e entity ≡ Some here → Found e here
  found_by e here None None numbered is found = absurd (none-some here found)
  found_by e here None (Some other) numbered is found = absurd (none-some other is)
  found_by e here (Some number) None numbered is found = absurd (none-some here found)
  found_by e here (Some number) (Some other) numbered is found =
      let both = defined_if e other here other.defined found in
      (number, numbered, is ∙ ap Some both.0, subst (λ (w : WholeEntity). w.defined ≡ Some (at.source, e)) both.0 both.1)

  found_here : (e : ℕ) (here : WholeEntity) → entity_here at e ≡ Some here → Found e here
  found_here e here found = found_by e here (slice_get linked.entities e) (option_and_then (slice_get whole.entities) (slice_get linked.entities e)) refl refl found

  defines : (e : ℕ) (entity : Entity) (here : WholeEntity) (by : Declaration) → slice_get linked.unit.entities e ≡ Some entity → entity_here at e ≡ Some here → declaration_of entity ≡ Some by → IsDefined whole at.source e linked entity here by
  defines e entity here by is found declared =
      let there = found_here e here found in record { source = source; at = is; number = there.0; numbered = there.1; is = there.2; there = there.3; declared = declared }

  -- ---- objects

  object_root_is : (entity : Entity) (here : WholeEntity) (by : Declaration) (is : EntityKind) → entity.kind ≡ is → (e : ℕ) → IsDefined whole at.source e linked entity here by → (x : NodeRoot) → Contains (object_if at is (object_root at entity here by)) x → IsHere x
  object_root_is entity here by entity_kind.Function kind e defined x there = absurd (none_in x there)
  object_root_is entity here by entity_kind.Object kind e defined x there =
      subst IsHere (ap named (around entity.body) ∙ in_one (object_root at entity here by) x there) (of_object e linked entity here by defined kind)
    where
      named : Option ℕ → NodeRoot
      named function = record { ordinal = by.ordinal; root = plain_root at (kind_of entity.linkage) here.ty by.spot entity.name function }

  object_is : (e : ℕ) (entity : Entity) (x : NodeRoot) → slice_get linked.unit.entities e ≡ Some entity → Contains (object_of at e entity) x → IsHere x
  object_is e entity x is there = by_cases (entity_here at e) (declaration_of entity) refl refl there
    where
      by_cases : (here : Option WholeEntity) (by : Option Declaration) → entity_here at e ≡ here → declaration_of entity ≡ by → Contains (object_by at entity here by) x → IsHere x
      by_cases None by found declared h = absurd (none_in x h)
      by_cases (Some here) None found declared h = absurd (none_in x h)
      by_cases (Some here) (Some by) found declared h = object_root_is entity here by entity.kind refl e (defines e entity here by is found declared) x h

  -- ---- functions

  function_is : (b : ℕ) (body : Body) (x : NodeRoot) → slice_get linked.unit.bodies b ≡ Some body → Contains (function_of at (at.first + b) body) x → IsHere x
  function_is b body x is there = by_cases (entity_here at body.entity) (slice_get linked.unit.entities body.entity) refl refl there
    where
      named : ℕ → Entity → WholeEntity → Declaration → NodeRoot
      named f entity here by = function_root at f entity here by

      by_declaration : (entity : Entity) (here : WholeEntity) (by : Option Declaration) → slice_get linked.unit.entities body.entity ≡ Some entity → entity_here at body.entity ≡ Some here → declaration_of entity ≡ by →
          Contains (option_to_list (option_map (function_root at (at.first + b) entity here) by)) x → IsHere x
      by_declaration entity here None at_e found declared h = absurd (none_in x h)
      by_declaration entity here (Some by) at_e found declared h =
          subst IsHere (ap (λ f. named f entity here by) (functions b) ∙ in_one (function_root at (at.first + b) entity here by) x h)
          (of_function b linked body entity here by (record { source = source; at = is }) (defines body.entity entity here by at_e found declared))

      by_cases : (here : Option WholeEntity) (entity : Option Entity) → entity_here at body.entity ≡ here → slice_get linked.unit.entities body.entity ≡ entity → Contains (Wanted.function_by at (at.first + b) here entity) x → IsHere x
      by_cases None entity found at_e h = absurd (none_in x h)
      by_cases (Some here) None found at_e h = absurd (none_in x h)
      by_cases (Some here) (Some entity) found at_e h = by_declaration entity here (declaration_of entity) at_e found refl h

  -- ---- locals

  local_is : (b l : ℕ) (body : Body) (is : Local) (x : NodeRoot) → slice_get linked.unit.bodies b ≡ Some body → slice_get body.locals l ≡ Some is → Contains (local_by at is.is_slot (at.first + b) is) x → IsHere x
  local_is b l body is x at_b at_l there = by_slot is.is_slot refl there
    where
      by_slot : (slot : Bool) → is.is_slot ≡ slot → Contains (local_by at slot (at.first + b) is) x → IsHere x
      by_slot true slot h = absurd (none_in x h)
      by_slot false slot h = subst IsHere (ap (λ f. local_root at f is) (functions b) ∙ in_one (local_root at (at.first + b) is) x h) (of_local b l linked body is (record { source = source; at = at_b }) at_l slot)

  locals_are : (b : ℕ) (body : Body) (x : NodeRoot) → slice_get linked.unit.bodies b ≡ Some body → Contains (locals_of at (at.first + b) body.locals) x → IsHere x
  locals_are b body x at_b there =
      let found = from (λ e locals. locals_of at (at.first + b) locals) (λ e (local : Local). local_by at local.is_slot (at.first + b) local) (λ e. refl) (λ e local locals. refl) body.locals 0 x there in
      local_is b found.0 body found.1 x at_b found.2 found.3

  -- ---- what nodes have of their own

  abbrev OwnsHere : Owned → Option ℕ → Type 0
  OwnsHere = Owns whole numbers program at.source linked

  heap_is : (node : Node) (t u : ℕ) (single : Bool) (owner function : Option ℕ) → owner ≡ function → OwnsHere (allocation node t single) owner → IsAllocatedType whole numbers program (type_here linked t) single u → IsHere (heap_root at node u single function)
  heap_is node t u single owner function same owns type = subst IsHere (ap (λ f. by f (Some (numbers.point at.source node.ordinal 0))) same ∙ ap (λ p. by function (Some p)) (points node.ordinal)) (of_allocation linked node t u single owner owns type)
    where
      by : Option ℕ → Option ℕ → NodeRoot
      by function point = record { ordinal = node.ordinal; root = record { kind = kind.Heap single; ty = u; spot = node.spot; name = []; function = function; point = point; bytes = [] } }

  owned_is : (owned : Owned) (owner function : Option ℕ) (x : NodeRoot) → owner ≡ function → OwnsHere owned owner → x.root.ty < length forms → Contains (root_by at forms function owned) x → IsHere x
  owned_is (text node bytes) owner function x same owns within there = subst IsHere (in_one (text_root at node bytes) x there) (of_text linked node bytes owner owns)
  owned_is (allocation node t true) owner function x same owns within there =
      subst IsHere (in_one (heap_root at node (type_here linked t) true function) x there) (heap_is node t (type_here linked t) true owner function same owns one)
  owned_is (allocation node t false) owner function x same owns within there = subst IsHere is (heap_is node t (array_in forms (type_here linked t)) false owner function same owns (many (array_in forms (type_here linked t)) (array_within forms (type_here linked t) inside)))
    where
      is : heap_root at node (array_in forms (type_here linked t)) false function ≡ x
      is = in_one (heap_root at node (array_in forms (type_here linked t)) false function) x there

      inside : array_in forms (type_here linked t) < length forms
      inside = subst (λ (y : NodeRoot). y.root.ty < length forms) (sym is) within
  owned_is (hidden node) owner function x same owns within there = absurd (none_in x there)

  all_owned_are : (list : List Owned) (owner function : Option ℕ) (x : NodeRoot) → owner ≡ function → ((owned : Owned) → Contains list owned → OwnsHere owned owner) → x.root.ty < length forms → Contains (roots_of at forms function list) x → IsHere x
  all_owned_are list owner function x same owns within there =
      let found = from (λ e all. roots_of at forms function all) (λ e owned. root_by at forms function owned) (λ e. refl) (λ e owned all. refl) list 0 x there in
      owned_is found.1 owner function x same (owns found.1 (contains_at list found.0 found.1 found.2)) within found.3

  abbrev form_here : ℕ → CType
  form_here = type_at linked.unit.types

  static_owned : (objects : List StaticObject) (owned : Owned) → Contains (owned_by_statics at objects) owned → (object : StaticObject) × Contains objects object × Contains (of_static_parts form_here object.parts) owned
  static_owned objects owned there =
      let found = from (λ e all. owned_by_statics at all) (λ e (object : StaticObject). of_static_parts form_here object.parts) (λ e. refl) (λ e object all. refl) objects 0 owned there in
      (found.1, contains_at objects found.0 found.1 found.2, found.3)

  owned_static : (objects : List StaticObject) (object : StaticObject) (owned : Owned) → Contains objects object → Contains (of_static_parts form_here object.parts) owned → Contains (owned_by_statics at objects) owned
  owned_static objects object owned among there =
      let found = at_contained objects object among in
      into (λ e all. owned_by_statics at all) (λ e (one : StaticObject). of_static_parts form_here one.parts) (λ e. refl) (λ e one all. refl) objects 0 found.0 object owned found.1 there

  -- ---- the roots of the source are those that it is found to have

  body_roots_are : (b : ℕ) (body : Body) (x : NodeRoot) → slice_get linked.unit.bodies b ≡ Some body → x.root.ty < length forms → Contains (roots_in at forms (at.first + b) body) x → IsHere x
  body_roots_are b body x at_b within there = elim (Contains-append_cases (function_of at (at.first + b) body) _ x there) [
    | inl named ↦ function_is b body x at_b named
    | inr others ↦ elim (Contains-append_cases (locals_of at (at.first + b) body.locals) (roots_of at forms (Some (at.first + b)) (owned_by form_here body.block)) x others) [
      | inl local ↦ locals_are b body x at_b local
      | inr inner ↦ all_owned_are (owned_by form_here body.block) (Some (numbers.function at.source b)) (Some (at.first + b)) x (ap Some (functions b)) (λ owned has. in_body b body (record { source = source; at = at_b }) has) within inner
    ]
  ]

  pub only_roots : (x : NodeRoot) → x.root.ty < length forms → Contains (all_roots at forms) x → IsHere x
  only_roots x within there = elim (Contains-append_cases (objects_from at 0 linked.unit.entities) _ x there) [
    | inl object ↦ objects object
    | inr others ↦ elim (Contains-append_cases (roots_of at forms None (owned_by_statics at linked.unit.objects)) (roots_in_all at forms 0 linked.unit.bodies) x others) [
      | inl static ↦ all_owned_are (owned_by_statics at linked.unit.objects) None None x refl statics within static
      | inr inner ↦ bodies inner
    ]
  ]
    where
      objects : Contains (objects_from at 0 linked.unit.entities) x → IsHere x
      objects h =
          let found = from (objects_from at) (object_of at) (λ e. refl) (λ e entity all. refl) linked.unit.entities 0 x h in
          object_is found.0 found.1 x found.2 (subst (λ e. Contains (object_of at e found.1) x) (from_zero found.0) found.3)
        where
          from_zero : (i : ℕ) → 0 + i ≡ i
          from_zero i = omega arith

      statics : (owned : Owned) → Contains (owned_by_statics at linked.unit.objects) owned → OwnsHere owned None
      statics owned h = let found = static_owned linked.unit.objects owned h in in_static found.0 source found.1 found.2

      bodies : Contains (roots_in_all at forms 0 linked.unit.bodies) x → IsHere x
      bodies h =
          let found = from (roots_in_all at forms) (λ b body. roots_in at forms (function_at at b) body) (λ e. refl) (λ e body all. refl) linked.unit.bodies 0 x h in
          body_roots_are found.0 found.1 x found.2 within (subst (λ b. Contains (roots_in at forms (at.first + b) found.1) x) (from_zero found.0) found.3)
        where
          from_zero : (i : ℕ) → 0 + i ≡ i
          from_zero i = omega arith

  -- ---- and each root of the source is found

  abbrev the : (o : ℕ) → Root → NodeRoot
  the o is = record { ordinal = o; root = is }

  zero_and : (i : ℕ) → i ≡ 0 + i
  zero_and i = omega arith

  there_object : (e : ℕ) (entity : Entity) (here : WholeEntity) (by : Declaration) → IsDefined whole at.source e linked entity here by → entity.kind ≡ entity_kind.Object →
      Contains (all_roots at forms) (the by.ordinal (programs.root whole numbers program (kind_of entity.linkage) here.ty by.spot entity.name (programs.function_around whole numbers program at.source entity.body) None []))
  there_object e entity here by defined kind = Contains-append_left (objects_from at 0 linked.unit.entities) _ _ (into (objects_from at) (object_of at) (λ e. refl) (λ e entity all. refl) linked.unit.entities 0 e entity wanted defined.at (subst (λ n. Contains (object_of at n entity) wanted) (zero_and e) member))
    where
      by_function : Option ℕ → NodeRoot
      by_function function = record { ordinal = by.ordinal; root = plain_root at (kind_of entity.linkage) here.ty by.spot entity.name function }

      wanted : NodeRoot
      wanted = by_function (programs.function_around whole numbers program at.source entity.body)

      list_is : object_of at e entity ≡ object_root at entity here by ∷ []
      list_is = ap (λ h. object_by at entity h (declaration_of entity)) (entity_is e defined.number here defined.numbered defined.is defined.there) ∙ ap (λ b. object_by at entity (Some here) b) defined.declared ∙
          ap (λ k. object_if at k (object_root at entity here by)) kind

      member : Contains (object_of at e entity) wanted
      member = subst (λ w. Contains (object_of at e entity) w) (sym (ap by_function (around entity.body))) (subst (λ all. Contains all (object_root at entity here by)) (sym list_is) (is_one (object_root at entity here by)))

  in_bodies : (b : ℕ) (body : Body) (x : NodeRoot) → slice_get linked.unit.bodies b ≡ Some body → Contains (roots_in at forms (at.first + b) body) x → Contains (all_roots at forms) x
  in_bodies b body x at_b there =
      Contains-append_right (objects_from at 0 linked.unit.entities) _ x (Contains-append_right (roots_of at forms None (owned_by_statics at linked.unit.objects)) (roots_in_all at forms 0 linked.unit.bodies) x
      (into (roots_in_all at forms) (λ b body. roots_in at forms (function_at at b) body) (λ e. refl) (λ e body all. refl) linked.unit.bodies 0 b body x at_b (subst (λ n. Contains (roots_in at forms (at.first + n) body) x) (zero_and b) there)))

  there_function : (b : ℕ) (body : Body) (entity : Entity) (here : WholeEntity) (by : Declaration) → slice_get linked.unit.bodies b ≡ Some body → IsDefined whole at.source body.entity linked entity here by →
      Contains (all_roots at forms) (the by.ordinal (programs.root whole numbers program kind.Function here.ty by.spot entity.name (Some (numbers.function at.source b)) None []))
  there_function b body entity here by at_b defined = in_bodies b body _ at_b (Contains-append_left (function_of at (at.first + b) body) _ _ member)
    where
      list_is : function_of at (at.first + b) body ≡ function_root at (at.first + b) entity here by ∷ []
      list_is = ap (λ h. Wanted.function_by at (at.first + b) h (slice_get linked.unit.entities body.entity)) (entity_is body.entity defined.number here defined.numbered defined.is defined.there) ∙
          ap (λ e. Wanted.function_by at (at.first + b) (Some here) e) defined.at ∙ ap (λ d. option_to_list (option_map (function_root at (at.first + b) entity here) d)) defined.declared

      member : Contains (function_of at (at.first + b) body) (function_root at (numbers.function at.source b) entity here by)
      member = subst (λ f. Contains (function_of at (at.first + b) body) (function_root at f entity here by)) (sym (functions b))
          (subst (λ all. Contains all (function_root at (at.first + b) entity here by)) (sym list_is) (is_one (function_root at (at.first + b) entity here by)))

  there_local : (b l : ℕ) (body : Body) (is : Local) → slice_get linked.unit.bodies b ≡ Some body → slice_get body.locals l ≡ Some is → is.is_slot ≡ false → Contains (all_roots at forms) (local_root at (numbers.function at.source b) is)
  there_local b l body is at_b at_l slot = in_bodies b body _ at_b (Contains-append_right (function_of at (at.first + b) body) _ _ (Contains-append_left (locals_of at (at.first + b) body.locals) _ _
      (into (λ e locals. locals_of at (at.first + b) locals) (λ e (local : Local). local_by at local.is_slot (at.first + b) local) (λ e. refl) (λ e local locals. refl) body.locals 0 l is _ at_l member)))
    where
      member : Contains (local_by at is.is_slot (at.first + b) is) (local_root at (numbers.function at.source b) is)
      member = subst (λ slot. Contains (local_by at slot (at.first + b) is) (local_root at (numbers.function at.source b) is)) (sym slot)
          (subst (λ f. Contains (local_root at (at.first + b) is ∷ []) (local_root at f is)) (sym (functions b)) (is_one (local_root at (at.first + b) is)))

  -- what a node has, where it has something
  there_owned : (owned : Owned) (owner : Option ℕ) (x : NodeRoot) → OwnsHere owned owner → ((function : Option ℕ) → owner ≡ function → Contains (root_by at forms function owned) x) → Contains (all_roots at forms) x
  there_owned owned _ x (in_body b body is has) member =
      let at_b : slice_get linked.unit.bodies b ≡ Some body = is.at in
      let found = at_contained (owned_by form_here body.block) owned has in
      in_bodies b body x at_b (Contains-append_right (function_of at (at.first + b) body) _ x (Contains-append_right (locals_of at (at.first + b) body.locals) (roots_of at forms (Some (at.first + b)) (owned_by form_here body.block)) x
      (into (λ e all. roots_of at forms (Some (at.first + b)) all) (λ e owned. root_by at forms (Some (at.first + b)) owned) (λ e. refl) (λ e owned all. refl) (owned_by form_here body.block) 0 found.0 owned x found.1 (member (Some (at.first + b)) (ap Some (functions b))))))
  there_owned owned _ x (in_static object _ among has) member =
      let found = at_contained (owned_by_statics at linked.unit.objects) owned (owned_static linked.unit.objects object owned among has) in
      Contains-append_right (objects_from at 0 linked.unit.entities) _ x (Contains-append_left (roots_of at forms None (owned_by_statics at linked.unit.objects)) (roots_in_all at forms 0 linked.unit.bodies) x
      (into (λ e all. roots_of at forms None all) (λ e owned. root_by at forms None owned) (λ e. refl) (λ e owned all. refl) (owned_by_statics at linked.unit.objects) 0 found.0 owned x found.1 (member None refl)))

  abbrev heap_by : (node : Node) (u : ℕ) (single : Bool) → Option ℕ → ℕ → NodeRoot
  heap_by node u single function point = record { ordinal = node.ordinal; root = record { kind = kind.Heap single; ty = u; spot = node.spot; name = []; function = function; point = Some point; bytes = [] } }

  there_allocation : (node : Node) (t u : ℕ) (single : Bool) (owner function : Option ℕ) → IsAllocatedType whole numbers program (type_here linked t) single u → owner ≡ function →
      Contains (root_by at forms function (allocation node t single)) (heap_by node u single owner (numbers.point at.source node.ordinal 0))
  there_allocation node t _ _ owner function one same =
      subst (λ x. Contains (heap_root at node (type_here linked t) true function ∷ []) x) (sym (ap (λ f. heap_by node (type_here linked t) true f (numbers.point at.source node.ordinal 0)) same ∙ ap (heap_by node (type_here linked t) true function) (points node.ordinal)))
      (is_one (heap_root at node (type_here linked t) true function))
  there_allocation node t u _ owner function (many _ form) same =
      subst (λ x. Contains (heap_root at node (array_in forms (type_here linked t)) false function ∷ []) x)
      (sym (ap (λ f. heap_by node u false f (numbers.point at.source node.ordinal 0)) same ∙ ap (heap_by node u false function) (points node.ordinal) ∙ ap (λ v. heap_by node v false function (get_or at.points node.ordinal 0)) (array_is forms (type_here linked t) u different form)))
      (is_one (heap_root at node (array_in forms (type_here linked t)) false function))

  same_source : (l : Linked) → slice_get whole.sources at.source ≡ Some l → l ≡ linked
  same_source l at_s = same_Some l linked (sym at_s ∙ source)

  there_text : (node : Node) (bytes : List ℕ) (owner : Option ℕ) → OwnsHere (text node bytes) owner → Contains (all_roots at forms) (text_root at node bytes)
  there_text node bytes owner owns = there_owned (text node bytes) owner (text_root at node bytes) owns (λ function same. is_one (text_root at node bytes))

  pub each_root : (o : ℕ) (is : Root) → IsRoot whole numbers program at.source o is → Contains (all_roots at forms) (the o is)
  each_root _ _ (of_object e l entity here by defined kind) =
      there_object e entity here by (subst (λ w. IsDefined whole at.source e w entity here by) (same_source l defined.source) defined) kind
  each_root _ _ (of_function b l body entity here by is defined) =
      let same = same_source l is.source in
      there_function b body entity here by (subst (λ (w : Linked). slice_get w.unit.bodies b ≡ Some body) same is.at) (subst (λ w. IsDefined whole at.source body.entity w entity here by) same defined)
  each_root _ _ (of_local b i l body is of at_l slot) =
      let same = same_source l of.source in
      subst (λ (w : Linked). Contains (all_roots at forms) (the is.ordinal (programs.root whole numbers program kind.Local (type_here w is.ty) is.spot is.name (Some (numbers.function at.source b)) None []))) (sym same)
      (there_local b i body is (subst (λ (w : Linked). slice_get w.unit.bodies b ≡ Some body) same of.at) at_l slot)
  each_root _ _ (of_text l node bytes owner owns) =
      let same = same_source l (owns_source whole numbers program at.source l (text node bytes) owner owns) in
      subst (λ (w : Linked). Contains (all_roots at forms) (the node.ordinal (programs.root whole numbers program kind.Text (type_here w node.type) node.spot [] None None (bytes ++ (0 ∷ []))))) (sym same)
      (there_text node bytes owner (subst (λ w. Owns whole numbers program at.source w (text node bytes) owner) same owns))
  each_root _ _ (of_allocation l node t u single owner owns type) =
      let same = same_source l (owns_source whole numbers program at.source l (allocation node t single) owner owns) in
      there_owned (allocation node t single) owner (heap_by node u single owner (numbers.point at.source node.ordinal 0)) (subst (λ w. Owns whole numbers program at.source w (allocation node t single) owner) same owns)
      (λ function is. there_allocation node t u single owner function (subst (λ (w : Linked). IsAllocatedType whole numbers program (type_here w t) single u) same type) is)

  -- ---- slots

  abbrev the_slot : (o type : ℕ) → NodeSlot
  the_slot o type = record { ordinal = o; ty = type }

  abbrev IsHereSlot : (b : ℕ) → NodeSlot → Type 0
  IsHereSlot b y = IsSlot whole numbers program at.source b y.ordinal y.ty

  pub only_slots : (b : ℕ) (body : Body) (x : NodeSlot) → slice_get linked.unit.bodies b ≡ Some body → Contains (slots_in at body) x → IsSlot whole numbers program at.source b x.ordinal x.ty
  only_slots b body x at_b there = elim (Contains-append_cases (slots_of_locals at body.locals) (slots_of at (owned_by form_here body.block)) x there) [
    | inl local ↦ declared local
    | inr inner ↦ values inner
  ]
    where
      is_body : IsBody whole.sources at.source b linked body
      is_body = record { source = source; at = at_b }

      by_slot : (l : ℕ) (is : Local) (slot : Bool) → slice_get body.locals l ≡ Some is → is.is_slot ≡ slot → Contains (slot_by at slot is) x → IsHereSlot b x
      by_slot l is true at_l slot h = subst (IsHereSlot b) (in_one (the_slot is.ordinal (type_here linked is.ty)) x h) (of_declared l linked body is is_body at_l slot)
      by_slot l is false at_l slot h = absurd (none_in x h)

      declared : Contains (slots_of_locals at body.locals) x → IsHereSlot b x
      declared h =
          let found = from (λ e locals. slots_of_locals at locals) (λ e (local : Local). slot_by at local.is_slot local) (λ e. refl) (λ e local locals. refl) body.locals 0 x h in
          by_slot found.0 found.1 found.1.is_slot found.2 refl found.3

      by_owned : (owned : Owned) → Contains (owned_by form_here body.block) owned → Contains (slot_of at owned) x → IsHereSlot b x
      by_owned (text node bytes) has h = absurd (none_in x h)
      by_owned (allocation node t single) has h = absurd (none_in x h)
      by_owned (hidden node) has h = subst (IsHereSlot b) (in_one (the_slot node.ordinal (type_here linked node.type)) x h) (of_value linked body node is_body has)

      values : Contains (slots_of at (owned_by form_here body.block)) x → IsHereSlot b x
      values h =
          let found = from (λ e all. slots_of at all) (λ e owned. slot_of at owned) (λ e. refl) (λ e owned all. refl) (owned_by form_here body.block) 0 x h in
          by_owned found.1 (contains_at (owned_by form_here body.block) found.0 found.1 found.2) found.3

  same_body : (b : ℕ) (l : Linked) (other body : Body) → IsBody whole.sources at.source b l other → slice_get linked.unit.bodies b ≡ Some body → other ≡ body
  same_body b l other body is at_b = same_Some other body (sym (subst (λ (w : Linked). slice_get w.unit.bodies b ≡ Some other) (same_source l is.source) is.at) ∙ at_b)

  pub each_slot : (b o type : ℕ) (body : Body) → slice_get linked.unit.bodies b ≡ Some body → IsSlot whole numbers program at.source b o type → Contains (slots_in at body) (the_slot o type)
  each_slot b _ _ body at_b (of_declared l source_ other is is_body at_l slot) =
      subst (λ (w : Linked). Contains (slots_in at body) (the_slot is.ordinal (type_here w is.ty))) (sym (same_source source_ is_body.source))
      (Contains-append_left (slots_of_locals at body.locals) (slots_of at (owned_by form_here body.block)) _
      (into (λ e locals. slots_of_locals at locals) (λ e (local : Local). slot_by at local.is_slot local) (λ e. refl) (λ e local locals. refl) body.locals 0 l is _ at_here member))
    where
      at_here : slice_get body.locals l ≡ Some is
      at_here = subst (λ (w : Body). slice_get w.locals l ≡ Some is) (same_body b source_ other body is_body at_b) at_l

      member : Contains (slot_by at is.is_slot is) (the_slot is.ordinal (type_here linked is.ty))
      member = subst (λ slot. Contains (slot_by at slot is) (the_slot is.ordinal (type_here linked is.ty))) (sym slot) (is_one (the_slot is.ordinal (type_here linked is.ty)))
  each_slot b _ _ body at_b (of_value source_ other node is_body has) =
      subst (λ (w : Linked). Contains (slots_in at body) (the_slot node.ordinal (type_here w node.type))) (sym (same_source source_ is_body.source))
      (Contains-append_right (slots_of_locals at body.locals) (slots_of at (owned_by form_here body.block)) _ (inner (at_contained (owned_by form_here body.block) (hidden node) has_here)))
    where
      has_here : Contains (owned_by form_here body.block) (hidden node)
      has_here = subst (λ (w : Body). Contains (owned_by form_here w.block) (hidden node)) (same_body b source_ other body is_body at_b)
          (subst (λ (w : Linked). Contains (owned_by (type_at w.unit.types) other.block) (hidden node)) (same_source source_ is_body.source) has)

      inner : ((i : ℕ) × (slice_get (owned_by form_here body.block) i ≡ Some (hidden node))) → Contains (slots_of at (owned_by form_here body.block)) (the_slot node.ordinal (type_here linked node.type))
      inner found = into (λ e all. slots_of at all) (λ e owned. slot_of at owned) (λ e. refl) (λ e owned all. refl) (owned_by form_here body.block) 0 found.0 (hidden node) _ found.1 (is_one (the_slot node.ordinal (type_here linked node.type)))
