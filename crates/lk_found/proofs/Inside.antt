-- The nodes in a declarator and the codes of its forms, in any order, are the declarator.
use Rattle.std.proofs.Common.{◌≡◌, ◌∙◌, ◌⊎◌, ◌++◌, ◌↔◌, ◌||◌, Bool, true, false, not, List, [], ◌∷◌, Option, Some, None, refl, sym, ap, subst, inl, inr}
use Rattle.std.specs.Prelude.{if◌then◌else◌, is_some}
use Rattle.lk_base.specs.declared.code.Code.TheVariants.{LargeType}
use Rattle.lk_tree.specs.declared.expression.DeclaratorForm.TheOpen.{DeclaratorForm-F}
use Rattle.lk_tree.specs.declared.expression.DeclaratorForm.{out-DeclaratorForm}
use Rattle.lk_tree.specs.declared.expression.Declarator.{Declarator}
use Rattle.lk_tree.specs.declared.expression.Expr.{Expr}
use Rattle.lk_typed.specs.DeclaratorRules.{Size, array_rules, function_rules, of_type, pointer_rules, unless}
use Rattle.lk_typed.specs.Env.{AsOperand, Env, Role, as_operand, extend}
use Rattle.lk_typed.specs.Expressions.{declarator_found, expr_constant, expression}
use Rattle.lk_typed.specs.Faults.{Breach, Fault}
use Rattle.lk_typed.specs.Layers.{DeclaratorLayer, array_by, pointer_made}
use Rattle.lk_typed.specs.MemberRules.{is_over, within_bounds}
use Rattle.lk_typed.specs.Sizes.{is_broken}
use Rattle.lk_typed.specs.NodeParts.{parts}
use Rattle.lk_typed.specs.NodeRules.{breaches, form_rules, hiding, mark, mark_of, name_use_rules, struct_bound_rules, whole_rules}
use Rattle.lk_typed.specs.Nodes.{ADeclarator, Left, Node, Placed, Unnamed, at}
use Rattle.lk_typed.specs.Parts.{array_left, declarator_parts, function_left, inner_adds, inner_left, span_at}
use Rattle.lk_typed.specs.Stands.{Mark}
use Rattle.lk_typed.specs.Told.{Named, Span, unless_broken}
use Rattle.lk_typed.specs.Ty.{Ty}
use Rattle.lk_typed.specs.Typing.{Typing, constant_in}
use Rattle.lk_rules.proofs.Kept.{broken_both, codes_both, breach_both, keeps_none, keeps_same, keeps_then, no_breach, no_fault, node_broken, node_faults, nodes_both, none_broken, none_hidden, the_lesser_is_kept}
use Rattle.lk_rules.proofs.Parts.{declarators_are_asked}
use Rattle.lk_rules.specs.Keeping.{FaultAt, FaultIn, HasBreach, IsBroken, Kept, Keeps, KeepsCodes, KeepsNodes}
use Rattle.lk_rules.specs.LayerLaws.{DeclaratorTree}
use Rattle.lk_rules.specs.NodeLaws.{is_size_typed}
use Rattle.lk_found.proofs.FormsOf.{told_by, types_follow_forms}
use Rattle.lk_found.proofs.Entries.{AreNodesOf, nodes_beside, nodes_of_node, nodes_then}
use Rattle.lk_found.specs.Declarators.{KeepsUse, codes_of_use, name_codes, use_codes}
use Rattle.lk_found.specs.FormsOf.{HasForms, sized, star_alone, star, named, group, array_alone, array, function_alone, function}
use Rattle.lk_found.specs.Keepings.{BreaksEach, Codes, FaultOfEach, KeepsAll, KeepsEach, OfEach, codes_at}
use Rattle.lk_found.specs.Shaped.{FormAt, codes_by, is_large_shape, shaped}
use Rattle.lk_found.specs.Shapes.{APointer, AnArray, AFunction, Form, array_codes, made_of, rules_of, type_by}
use Rattle.lk_found.specs.Walked.{inside, parameter_parts, size_part}

-- ---- either

with_nothing : {A : Type 0} → ((A ⊎ ⊥) ↔ A)
with_nothing {A} = (to, inl)
  where
    to : A ⊎ ⊥ → A
    to (inl a) = a
    to (inr never) = absurd never

nothing_with : {A : Type 0} → ((⊥ ⊎ A) ↔ A)
nothing_with {A} = (to, inr)
  where
    to : ⊥ ⊎ A → A
    to (inl never) = absurd never
    to (inr a) = a

turned : {A B : Type 0} → (A ↔ B) → (B ↔ A)
turned h = (h.1, h.0)

nothing_inside : ((⊥ ⊎ ⊥) ⊎ (⊥ ⊎ ⊥)) ↔ ⊥
nothing_inside = (to, (λ never. absurd never))
  where
    to : (⊥ ⊎ ⊥) ⊎ (⊥ ⊎ ⊥) → ⊥
    to (inl (inl never)) = never
    to (inl (inr never)) = never
    to (inr (inl never)) = never
    to (inr (inr never)) = never

-- a node with one inside and others, by what is in that one: J and G; the name's Z; and V, which is nothing
through : {N P B I Q J G Z V R W K : Type 0} → ((P ⊎ B) ↔ N) → ((I ⊎ Q) ↔ P) → (((J ⊎ G) ⊎ (Z ⊎ V)) ↔ I) → (V → ⊥) → ((J ⊎ Q) ↔ K) → ((R ⊎ W) ↔ B) → (((K ⊎ (R ⊎ G)) ⊎ (Z ⊎ W)) ↔ N)
through {N} {P} {B} {I} {Q} {J} {G} {Z} {V} {R} {W} {K} node inner one never within own = (to, λ n. of_node (node.1 n))
  where
    of_within : J ⊎ Q → N
    of_within (inl j) = node.0 (inl (inner.0 (inl (one.0 (inl (inl j))))))
    of_within (inr q) = node.0 (inl (inner.0 (inr q)))

    to : (K ⊎ (R ⊎ G)) ⊎ (Z ⊎ W) → N
    to (inl (inl k)) = of_within (within.1 k)
    to (inl (inr (inl r))) = node.0 (inr (own.0 (inl r)))
    to (inl (inr (inr g))) = node.0 (inl (inner.0 (inl (one.0 (inl (inr g))))))
    to (inr (inl z)) = node.0 (inl (inner.0 (inl (one.0 (inr (inl z))))))
    to (inr (inr w)) = node.0 (inr (own.0 (inr w)))

    of_one : (J ⊎ G) ⊎ (Z ⊎ V) → (K ⊎ (R ⊎ G)) ⊎ (Z ⊎ W)
    of_one (inl (inl j)) = inl (inl (within.0 (inl j)))
    of_one (inl (inr g)) = inl (inr (inr g))
    of_one (inr (inl z)) = inr (inl z)
    of_one (inr (inr v)) = absurd (never v)

    of_parts : I ⊎ Q → (K ⊎ (R ⊎ G)) ⊎ (Z ⊎ W)
    of_parts (inl i) = of_one (one.1 i)
    of_parts (inr q) = inl (inl (within.0 (inr q)))

    of_own : R ⊎ W → (K ⊎ (R ⊎ G)) ⊎ (Z ⊎ W)
    of_own (inl r) = inl (inr (inl r))
    of_own (inr w) = inr (inr w)

    of_node : P ⊎ B → (K ⊎ (R ⊎ G)) ⊎ (Z ⊎ W)
    of_node (inl p) = of_parts (inner.1 p)
    of_node (inr b) = of_own (own.1 b)

-- one that has no codes of its form
through_group : {N P J G Z V W : Type 0} → ((P ⊎ W) ↔ N) → (((J ⊎ G) ⊎ (Z ⊎ V)) ↔ P) → (V → ⊥) → (((J ⊎ G) ⊎ (Z ⊎ W)) ↔ N)
through_group {N} {P} {J} {G} {Z} {V} {W} node one never = (to, λ n. of_node (node.1 n))
  where
    to : (J ⊎ G) ⊎ (Z ⊎ W) → N
    to (inl h) = node.0 (inl (one.0 (inl h)))
    to (inr (inl z)) = node.0 (inl (one.0 (inr (inl z))))
    to (inr (inr w)) = node.0 (inr w)

    of_one : (J ⊎ G) ⊎ (Z ⊎ V) → (J ⊎ G) ⊎ (Z ⊎ W)
    of_one (inl h) = inl h
    of_one (inr (inl z)) = inr (inl z)
    of_one (inr (inr v)) = absurd (never v)

    of_node : P ⊎ W → (J ⊎ G) ⊎ (Z ⊎ W)
    of_node (inl p) = of_one (one.1 p)
    of_node (inr w) = inr (inr w)

-- a name
through_name : {N P B R W : Type 0} → ((P ⊎ B) ↔ N) → ((R ⊎ W) ↔ B) → (((P ⊎ ⊥) ⊎ ((R ⊎ ⊥) ⊎ W)) ↔ N)
through_name {N} {P} {B} {R} {W} node own = (to, λ n. of_node (node.1 n))
  where
    to : (P ⊎ ⊥) ⊎ ((R ⊎ ⊥) ⊎ W) → N
    to (inl (inl p)) = node.0 (inl p)
    to (inl (inr never)) = absurd never
    to (inr (inl (inl r))) = node.0 (inr (own.0 (inl r)))
    to (inr (inl (inr never))) = absurd never
    to (inr (inr w)) = node.0 (inr (own.0 (inr w)))

    of_own : R ⊎ W → (P ⊎ ⊥) ⊎ ((R ⊎ ⊥) ⊎ W)
    of_own (inl r) = inr (inl (inl r))
    of_own (inr w) = inr (inr w)

    of_node : P ⊎ B → (P ⊎ ⊥) ⊎ ((R ⊎ ⊥) ⊎ W)
    of_node (inl p) = inl (inl p)
    of_node (inr b) = of_own (own.1 b)

-- the codes of the whole node are those over a bound and those of a struct
whole_of : {N A L S Z W U : Type 0} → ((A ⊎ (Z ⊎ W)) ↔ N) → ((L ⊎ S) ↔ W) → ((Z ⊎ (S ⊎ ⊥)) ↔ U) → (((A ⊎ L) ⊎ U) ↔ N)
whole_of {N} {A} {L} {S} {Z} {W} {U} node whole becomes = (to, λ n. of_node (node.1 n))
  where
    of_use : Z ⊎ (S ⊎ ⊥) → N
    of_use (inl z) = node.0 (inr (inl z))
    of_use (inr (inl s)) = node.0 (inr (inr (whole.0 (inr s))))
    of_use (inr (inr never)) = absurd never

    to : (A ⊎ L) ⊎ U → N
    to (inl (inl a)) = node.0 (inl a)
    to (inl (inr l)) = node.0 (inr (inr (whole.0 (inl l))))
    to (inr u) = of_use (becomes.1 u)

    of_whole : L ⊎ S → (A ⊎ L) ⊎ U
    of_whole (inl l) = inl (inr l)
    of_whole (inr s) = inr (becomes.0 (inr (inl s)))

    of_node : A ⊎ (Z ⊎ W) → (A ⊎ L) ⊎ U
    of_node (inl a) = inl (inl a)
    of_node (inr (inl z)) = inr (becomes.0 (inl z))
    of_node (inr (inr w)) = of_whole (whole.1 w)

-- with others behind it: the codes U of its name's use and the codes T are E
regrouped : {A U N T E O M : Type 0} → ((A ⊎ U) ↔ N) → ((U ⊎ T) ↔ E) → ((N ⊎ O) ↔ M) → ((A ⊎ (O ⊎ E)) ↔ (M ⊎ T))
regrouped {A} {U} {N} {T} {E} {O} {M} node codes nodes = (to, back)
  where
    of_codes : U ⊎ T → M ⊎ T
    of_codes (inl u) = inl (nodes.0 (inl (node.0 (inr u))))
    of_codes (inr t) = inr t

    to : A ⊎ (O ⊎ E) → M ⊎ T
    to (inl a) = inl (nodes.0 (inl (node.0 (inl a))))
    to (inr (inl o)) = inl (nodes.0 (inr o))
    to (inr (inr e)) = of_codes (codes.1 e)

    of_node : A ⊎ U → A ⊎ (O ⊎ E)
    of_node (inl a) = inl a
    of_node (inr u) = inr (inr (codes.0 (inl u)))

    of_nodes : N ⊎ O → A ⊎ (O ⊎ E)
    of_nodes (inl n) = of_node (node.1 n)
    of_nodes (inr o) = inr (inl o)

    back : M ⊎ T → A ⊎ (O ⊎ E)
    back (inl m) = of_nodes (nodes.1 m)
    back (inr t) = inr (inr (codes.0 (inr t)))

-- ---- codes one node after another

one_more : {A B C D : Type 0} → ((B ⊎ C) ↔ D) → (((A ⊎ B) ⊎ C) ↔ (A ⊎ D))
one_more {A} {B} {C} {D} h = (to, back)
  where
    to : (A ⊎ B) ⊎ C → A ⊎ D
    to (inl (inl a)) = inl a
    to (inl (inr b)) = inr (h.0 (inl b))
    to (inr c) = inr (h.0 (inr c))

    of_both : B ⊎ C → (A ⊎ B) ⊎ C
    of_both (inl b) = inl (inr b)
    of_both (inr c) = inr c

    back : A ⊎ D → (A ⊎ B) ⊎ C
    back (inl a) = inl (inl a)
    back (inr d) = of_both (h.1 d)

each_both : (At : Mark → List Breach → Type 0) (cs ds : List Codes) → ((OfEach At cs ⊎ OfEach At ds) ↔ OfEach At (cs ++ ds))
each_both At [] ds = nothing_with
each_both At (c ∷ cs) ds = one_more (each_both At cs ds)

each_kept : (old new : Kept) (cs : List Codes) → KeepsEach old cs new → Keeps old (FaultOfEach cs) (BreaksEach cs) new
each_kept old new [] same = subst (λ k. Keeps old (λ f. ⊥) ⊥ k) (sym same) (keeps_none old (λ f. ⊥) ⊥ (λ f h. h) (λ h. h))
each_kept old new (c ∷ cs) h =
    keeps_then old h.0 new (FaultAt c.mark c.broken) (FaultOfEach cs) (HasBreach c.broken) (BreaksEach cs) h.1 (each_kept h.0 new cs h.2)

-- ---- what is found of a declarator by its form

abbrev name_told : DeclaratorLayer → Option Named
name_told l = l.told.name

-- ---- a type that is missing

broken_none : (bs : List Breach) → unless_broken bs None ≡ None
broken_none [] = refl
broken_none (b ∷ bs) = refl

made_none : (form : Form) (span : Span) → made_of form span None ≡ None
made_none APointer span = refl
made_none (AnArray size) span = broken_none (array_rules span.env span.may_be_absent None size)
made_none (AFunction params dots) span = refl

type_none : (form : Form) (span : Span) → type_by span form None ≡ None
type_none form span = ap (λ t. within_bounds span.behind t) (made_none form span)

large_none : (span : Span) (fs : List FormAt) → is_large_shape span fs None ≡ false
large_none span [] = refl
large_none span (f ∷ fs) =
    ap (λ t. is_over span.behind t || is_large_shape span fs (type_by span f.form None)) (made_none f.form span) ∙ ap (is_large_shape span fs) (type_none f.form span) ∙ large_none span fs

shaped_none : (span : Span) (fs : List FormAt) → shaped span fs None ≡ None
shaped_none span [] = refl
shaped_none span (f ∷ fs) = ap (shaped span fs) (type_none f.form span) ∙ shaped_none span fs

-- a size in which a fault stands makes no type
faulty_made : (span : Span) (t : Option Ty) → array_by span (Some None) t ≡ None
faulty_made span None = broken_none (array_rules span.env span.may_be_absent None (Some None))
faulty_made span (Some t) = ap (unless_broken (array_rules span.env span.may_be_absent (Some t) (Some None))) (none_of (is_broken span.env.structs t)) ∙ broken_none (array_rules span.env span.may_be_absent (Some t) (Some None))
  where
    none_of : (b : Bool) → ◌≡◌ {A = Option Ty} (if b then None else None) None
    none_of true = refl
    none_of false = refl

-- ---- the codes of the whole declarator

abbrev whole_by : Left → Bool → Option Ty → List Breach
whole_by left large t = if left.is_whole then unless (not large) LargeType ++ of_type t (struct_bound_rules left.behind left.use_of_name) else []

whole_shaped : (e : Env) (left : Left) (d : Declarator) (fs : List FormAt) → HasForms e d fs →
    whole_rules e left d ≡ whole_by left (is_large_shape (span_at e left) fs left.type) (shaped (span_at e left) fs left.type)
whole_shaped e left d fs has =
    let follow = types_follow_forms (span_at e left) d fs has left.type in
    ap (λ large. whole_by left large ((declarator_found d).type (span_at e left) left.type)) follow.1 ∙ ap (whole_by left (is_large_shape (span_at e left) fs left.type)) follow.0

whole_nothing : (left : Left) → whole_by left false None ≡ []
whole_nothing left = of left.is_whole
  where
    of : (b : Bool) → ◌≡◌ {A = List Breach} (if b then [] else []) []
    of true = refl
    of false = refl

whole_faulty : (e : Env) (left : Left) (d : Declarator) (m : Mark) (size : Size) (fs : List FormAt) → HasForms e d (record { mark = m; form = AnArray size } ∷ fs) → size ≡ Some None → whole_rules e left d ≡ []
whole_faulty e left d m size fs has is =
    let span = span_at e left in
    let made : array_by span size left.type ≡ None = ap (λ s. array_by span s left.type) is ∙ faulty_made span left.type in
    whole_shaped e left d (record { mark = m; form = AnArray size } ∷ fs) has ∙
    ap (λ t. whole_by left (is_over span.behind t || is_large_shape span fs (within_bounds span.behind t)) (shaped span fs (within_bounds span.behind t))) made ∙
    ap (λ b. whole_by left b (shaped span fs None)) (large_none span fs) ∙ ap (whole_by left false) (shaped_none span fs) ∙ whole_nothing left

-- ---- the codes of a node

asked_of : (at_end e : Env) (left : Left) (d : Declarator) (form : DeclaratorTree) → out-DeclaratorForm d.form ≡ form →
    breaches at_end e (ADeclarator left d) ≡ (if is_size_typed e form then form_rules e left form ++ whole_rules e left d else [])
asked_of at_end e left d form is =
    declarators_are_asked at_end e left d ∙ ap (λ form. if is_size_typed e form then form_rules e left form ++ whole_rules e left d else []) is

pub same_role : (e : Env) → e.role ≡ AsOperand → as_operand e ≡ e
same_role e is = ap (λ (role : Role). record e { role = role }) (sym is)

array_asked : (span : Span) (t : Option Ty) (o : Option Typing) (whole : List Breach) → (o ≡ None → whole ≡ []) →
    (if is_some o then array_rules span.env span.may_be_absent t (Some (constant_in o)) ++ whole else []) ≡ array_codes span (Some (constant_in o)) t ++ whole
array_asked span t None whole none = sym (none refl)
array_asked span t (Some x) whole none = refl

-- of a size that is written
sized_asked : (at_end e : Env) (left : Left) (d : Declarator) (inner : Option Declarator) (size : Expr) (m : Mark) (fs : List FormAt) → e.role ≡ AsOperand →
    out-DeclaratorForm d.form ≡ DeclaratorForm-F.ArrayOf inner (Some size) → HasForms e d (record { mark = m; form = sized e inner (Some size) } ∷ fs) →
    breaches at_end e (ADeclarator left d) ≡ rules_of (sized e inner (Some size)) (span_at e left) left.type ++ whole_rules e left d
sized_asked at_end e left d inner size m fs role is has =
    let behind = extend e (inner_adds inner e) in
    let span = span_at e left in
    let whole = whole_rules e left d in
    asked_of at_end e left d _ is ∙
    ap (λ b. if b then array_rules e left.may_be_absent left.type (Some (expr_constant size behind)) ++ whole else []) (ap (λ env. is_some (expression size env).typing) (sym (same_role behind role))) ∙
    array_asked span left.type (expression size (as_operand behind)).typing whole (λ none. whole_faulty e left d m (Some (expr_constant size behind)) fs has (ap (λ o. Some (constant_in o)) none))

-- ---- the law, of faults and of broken nodes alike

module _ (at_end : Env) (In : List Placed → Type 0) (At : Mark → List Breach → Type 0) (several : (ps qs : List Placed) → ((In ps ⊎ In qs) ↔ In (ps ++ qs)))
    (whole_node : (env : Env) (node : Node) → hiding at_end env node ≡ [] → ((In (parts at_end env node) ⊎ At (mark_of node) (breaches at_end env node)) ↔ In (at env node ∷ [])))
    (no_code : (m : Mark) → At m [] → ⊥) (both : (m : Mark) (bs cs : List Breach) → ((At m bs ⊎ At m cs) ↔ At m (bs ++ cs))) where
  -- the nodes inside, the codes of the forms, those of the name and of the whole
  abbrev AllBut : Env → Left → Declarator → List FormAt → List Placed → Option Named → Type 0
  AllBut e left d fs ps name =
      (In ps ⊎ OfEach At (codes_by (span_at e left) fs left.type)) ⊎
      (OfEach At (name_codes left.behind (shaped (span_at e left) fs left.type) left.use_of_name name) ⊎ At (mark d.spot d.ordinal) (whole_rules e left d))

  abbrev NodeOf : Env → Left → Declarator → Type 0
  NodeOf e left d = In (at e (ADeclarator left d) ∷ [])

  node_of : (e : Env) (left : Left) (d : Declarator) (form : DeclaratorTree) (bs : List Breach) → out-DeclaratorForm d.form ≡ form → breaches at_end e (ADeclarator left d) ≡ bs →
      ((In (declarator_parts e left form) ⊎ At (mark d.spot d.ordinal) bs) ↔ NodeOf e left d)
  node_of e left d form bs is codes =
      subst (λ bs. (In (declarator_parts e left form) ⊎ At (mark d.spot d.ordinal) bs) ↔ NodeOf e left d) codes
      (subst (λ form. (In (declarator_parts e left form) ⊎ At (mark d.spot d.ordinal) (breaches at_end e (ADeclarator left d))) ↔ NodeOf e left d) is
      (whole_node e (ADeclarator left d) refl))

  -- the declared name is the one that its form tells
  name_as : (e : Env) (left : Left) (d : Declarator) (fs : List FormAt) (ps : List Placed) (name : Option Named) → (declarator_found d).name ≡ name →
      (AllBut e left d fs ps name ↔ NodeOf e left d) → (AllBut e left d fs ps (declarator_found d).name ↔ NodeOf e left d)
  name_as e left d fs ps name is h = subst (λ name. AllBut e left d fs ps name ↔ NodeOf e left d) (sym is) h

  pub all_of : (e : Env) (d : Declarator) (fs : List FormAt) (has : HasForms e d fs) → e.role ≡ AsOperand → (left : Left) → (AllBut e left d fs (inside has) (declarator_found d).name ↔ NodeOf e left d)
  all_of e d fs (star_alone is) role left =
      name_as e left d fs [] None (ap name_told (told_by d _ is))
      (through (node_of e left d _ _ is (asked_of at_end e left d _ is)) nothing_with nothing_inside (λ never. never) nothing_with (both _ (pointer_rules left.type) (whole_rules e left d)))
  all_of e d fs (star {inner = inner} {fs = gs} is has) role left =
      let next = inner_left left (pointer_made left.type) in
      name_as e left d fs (inside has) (declarator_found inner).name (ap name_told (told_by d _ is))
      (through (node_of e left d _ _ is (asked_of at_end e left d _ is)) with_nothing (all_of e inner gs has role next) (no_code _) with_nothing (both _ (pointer_rules left.type) (whole_rules e left d)))
  all_of e d fs (named {name = name} is) role left =
      name_as e left d fs [] _ (ap name_told (told_by d _ is))
      (through_name (node_of e left d _ _ is (asked_of at_end e left d _ is)) (both _ (name_use_rules left.behind left.type name left.use_of_name) (whole_rules e left d)))
  all_of e d fs (group {inner = inner} is has) role left =
      let next = record left { is_whole = false } in
      name_as e left d fs (inside has) (declarator_found inner).name (ap name_told (told_by d _ is))
      (through_group (node_of e left d _ _ is (asked_of at_end e left d _ is)) (all_of e inner fs has role next) (no_code _))
  all_of e d fs (array_alone {size = None} is) role left =
      name_as e left d fs [] None (ap name_told (told_by d _ is))
      (through (node_of e left d _ _ is (asked_of at_end e left d _ is)) nothing_with nothing_inside (λ never. never) nothing_with (both _ (rules_of (sized e None None) (span_at e left) left.type) (whole_rules e left d)))
  all_of e d fs (array_alone {size = Some x} is) role left =
      name_as e left d fs (size_part e None (Some x)) None (ap name_told (told_by d _ is))
      (through (node_of e left d _ _ is (sized_asked at_end e left d None x _ [] role is (array_alone is))) nothing_with nothing_inside (λ never. never) nothing_with
      (both _ (rules_of (sized e None (Some x)) (span_at e left) left.type) (whole_rules e left d)))
  all_of e d fs (array {inner = inner} {size = None} {fs = gs} is has) role left =
      let next = array_left e (extend e (inner_adds (Some inner) e)) left None in
      name_as e left d fs (inside has ++ []) (declarator_found inner).name (ap name_told (told_by d _ is))
      (through (node_of e left d _ _ is (asked_of at_end e left d _ is)) (several (at e (ADeclarator next inner) ∷ []) []) (all_of e inner gs has role next) (no_code _) (several (inside has) [])
      (both _ (rules_of (sized e (Some inner) None) (span_at e left) left.type) (whole_rules e left d)))
  all_of e d fs (array {inner = inner} {size = Some x} {fs = gs} is has) role left =
      let next = array_left e (extend e (inner_adds (Some inner) e)) left (Some x) in
      name_as e left d fs (inside has ++ size_part e (Some inner) (Some x)) (declarator_found inner).name (ap name_told (told_by d _ is))
      (through (node_of e left d _ _ is (sized_asked at_end e left d (Some inner) x _ gs role is (array is has))) (several (at e (ADeclarator next inner) ∷ []) (size_part e (Some inner) (Some x)))
      (all_of e inner gs has role next) (no_code _) (several (inside has) (size_part e (Some inner) (Some x)))
      (both _ (rules_of (sized e (Some inner) (Some x)) (span_at e left) left.type) (whole_rules e left d)))
  all_of e d fs (function_alone {ps = ps} {dots = dots} is) role left =
      name_as e left d fs (parameter_parts e None ps dots) None (ap name_told (told_by d _ is))
      (through (node_of e left d _ _ is (asked_of at_end e left d _ is)) nothing_with nothing_inside (λ never. never) nothing_with (both _ (function_rules left.type) (whole_rules e left d)))
  all_of e d fs (function {inner = inner} {ps = ps} {dots = dots} {fs = gs} is has) role left =
      let next = function_left (extend e (inner_adds (Some inner) e)) left ps dots in
      name_as e left d fs (inside has ++ parameter_parts e (Some inner) ps dots) (declarator_found inner).name (ap name_told (told_by d _ is))
      (through (node_of e left d _ _ is (asked_of at_end e left d _ is)) (several (at e (ADeclarator next inner) ∷ []) (parameter_parts e (Some inner) ps dots)) (all_of e inner gs has role next) (no_code _)
      (several (inside has) (parameter_parts e (Some inner) ps dots)) (both _ (function_rules left.type) (whole_rules e left d)))

  -- a whole declarator, by what is kept of it in turn
  pub whole_is : (e : Env) (d : Declarator) (fs : List FormAt) (has : HasForms e d fs) → e.role ≡ AsOperand → (left : Left) → left.is_whole ≡ true →
      ((((In (inside has) ⊎ OfEach At (codes_by (span_at e left) fs left.type)) ⊎ At (mark d.spot d.ordinal) (unless (not (is_large_shape (span_at e left) fs left.type)) LargeType)) ⊎
      OfEach At (use_codes left d ((declarator_found d).type (span_at e left) left.type))) ↔ NodeOf e left d)
  whole_is e d fs has role left whole =
      let span = span_at e left in
      let large = unless (not (is_large_shape span fs left.type)) LargeType in
      let m = mark d.spot d.ordinal in
      let follow = types_follow_forms span d fs has left.type in
      let of_struct = λ (t : Option Ty). of_type t (struct_bound_rules left.behind left.use_of_name) in
      let rules : whole_rules e left d ≡ large ++ of_struct (shaped span fs left.type) =
      whole_shaped e left d fs has ∙ ap (λ b. if b then large ++ of_struct (shaped span fs left.type) else []) whole in
      subst (λ t. (((In (inside has) ⊎ OfEach At (codes_by span fs left.type)) ⊎ At m large) ⊎ OfEach At (use_codes left d t)) ↔ NodeOf e left d) (sym follow.0)
      (whole_of (all_of e d fs has role left) (subst (λ bs. (At m large ⊎ At m (of_struct (shaped span fs left.type))) ↔ At m bs) (sym rules) (both m large (of_struct (shaped span fs left.type))))
      (each_both At (name_codes left.behind (shaped span fs left.type) left.use_of_name (declarator_found d).name) (codes_at m (of_struct (shaped span fs left.type)) ∷ [])))

  -- among other nodes and codes
  pub whole_among : (e : Env) (d : Declarator) (fs : List FormAt) (has : HasForms e d fs) → e.role ≡ AsOperand → (left : Left) → left.is_whole ≡ true → (others : List Placed) (later : List Codes) →
      ((((In (inside has) ⊎ OfEach At (codes_by (span_at e left) fs left.type)) ⊎ At (mark d.spot d.ordinal) (unless (not (is_large_shape (span_at e left) fs left.type)) LargeType)) ⊎
      (In others ⊎ OfEach At (codes_of_use e left d ++ later))) ↔ (In (at e (ADeclarator left d) ∷ others) ⊎ OfEach At later))
  whole_among e d fs has role left whole others later =
      regrouped (whole_is e d fs has role left whole) (each_both At (codes_of_use e left d) later) (several (at e (ADeclarator left d) ∷ []) others)

-- ---- what is kept

held : (at_end env : Env) (node : Node) → hiding at_end env node ≡ [] → (f : Fault) →
    ((FaultIn at_end (parts at_end env node) f ⊎ FaultAt (mark_of node) (breaches at_end env node) f) ↔ FaultIn at_end (at env node ∷ []) f)
held at_end env node none f = node_faults at_end env node (breaches at_end env node) (λ b. ((λ i. record { breaks = i; shown = none_hidden at_end env node none }), (λ h. h.breaks))) f

-- the nodes inside, the codes of the forms and 32, one after another, are the declarator but for the use of its name
pub declarator_kept : (at_end e : Env) (d : Declarator) (fs : List FormAt) (has : HasForms e d fs) → e.role ≡ AsOperand → (left : Left) → left.is_whole ≡ true → (old one two three last : Kept)
    (others : List Placed) (later : List Codes) → KeepsNodes at_end old (inside has) one → KeepsEach one (codes_by (span_at e left) fs left.type) two →
    KeepsCodes two (mark d.spot d.ordinal) (unless (not (is_large_shape (span_at e left) fs left.type)) LargeType) three →
    KeepsAll at_end three others (codes_of_use e left d ++ later) last → KeepsAll at_end old (at e (ADeclarator left d) ∷ others) later last
declarator_kept at_end e d fs has role left whole old one two three last others later nodes forms large becomes =
    let span = span_at e left in
    let m = mark d.spot d.ordinal in
    let over = unless (not (is_large_shape span fs left.type)) LargeType in
    let cs = codes_by span fs left.type in
    let us = codes_of_use e left d ++ later in
    let first = keeps_then old one two (FaultIn at_end (inside has)) (FaultOfEach cs) (IsBroken at_end (inside has)) (BreaksEach cs) nodes (each_kept one two cs forms) in
    let second = keeps_then old two three (λ f. FaultIn at_end (inside has) f ⊎ FaultOfEach cs f) (FaultAt m over) (IsBroken at_end (inside has) ⊎ BreaksEach cs) (HasBreach over) first large in
    let third = keeps_then old three last (λ f. (FaultIn at_end (inside has) f ⊎ FaultOfEach cs f) ⊎ FaultAt m over f) (λ f. FaultIn at_end others f ⊎ FaultOfEach us f)
    ((IsBroken at_end (inside has) ⊎ BreaksEach cs) ⊎ HasBreach over) (IsBroken at_end others ⊎ BreaksEach us) second becomes in
    keeps_same old last (λ f. ((FaultIn at_end (inside has) f ⊎ FaultOfEach cs f) ⊎ FaultAt m over f) ⊎ (FaultIn at_end others f ⊎ FaultOfEach us f))
    (λ f. FaultIn at_end (at e (ADeclarator left d) ∷ others) f ⊎ FaultOfEach later f)
    (((IsBroken at_end (inside has) ⊎ BreaksEach cs) ⊎ HasBreach over) ⊎ (IsBroken at_end others ⊎ BreaksEach us)) (IsBroken at_end (at e (ADeclarator left d) ∷ others) ⊎ BreaksEach later)
    (λ f. whole_among at_end (λ ps. FaultIn at_end ps f) (λ m bs. FaultAt m bs f) (λ ps qs. nodes_both at_end ps qs f) (λ env node none. held at_end env node none f) (λ m. no_fault m f)
    (λ m bs cs. codes_both m bs cs f) e d fs has role left whole others later)
    (whole_among at_end (IsBroken at_end) (λ m bs. HasBreach bs) (broken_both at_end) (λ env node none. node_broken at_end env node) (λ m. no_breach) (λ m bs cs. breach_both bs cs) e d fs has role left whole others
    later) third

pub each_all : (at_end : Env) (old new : Kept) (cs ds : List Codes) → cs ≡ ds → KeepsEach old cs new → KeepsAll at_end old [] ds new
each_all at_end old new cs ds is h =
    subst (λ cs. KeepsAll at_end old [] cs new) is
    (keeps_same old new (FaultOfEach cs) (λ f. FaultIn at_end [] f ⊎ FaultOfEach cs f) (BreaksEach cs) (IsBroken at_end [] ⊎ BreaksEach cs) (λ f. turned nothing_with) (inr, back) (each_kept old new cs h))
  where
    back : IsBroken at_end [] ⊎ BreaksEach cs → BreaksEach cs
    back (inl never) = absurd (none_broken at_end never)
    back (inr h) = h

pub all_nodes : (at_end : Env) (old new : Kept) (ps : List Placed) → KeepsAll at_end old ps [] new → KeepsNodes at_end old ps new
all_nodes at_end old new ps h =
    keeps_same old new (λ f. FaultIn at_end ps f ⊎ FaultOfEach [] f) (FaultIn at_end ps) (IsBroken at_end ps ⊎ BreaksEach []) (IsBroken at_end ps) (λ f. with_nothing) with_nothing h

-- ---- a name that is used for nothing

no_rules : (behind : Env) (t : Option Ty) → of_type t (struct_bound_rules behind Unnamed) ≡ []
no_rules behind None = refl
no_rules behind (Some t) = refl

pub none_kept_at : (kept : Kept) (m : Mark) (bs : List Breach) → bs ≡ [] → KeepsCodes kept m bs kept
none_kept_at kept m bs is = subst (λ bs. KeepsCodes kept m bs kept) (sym is) (the_lesser_is_kept kept m None)

unnamed_each : (kept : Kept) (behind : Env) (m : Mark) (t : Option Ty) (name : Option Named) → KeepsEach kept (name_codes behind t Unnamed name ++ codes_at m (of_type t (struct_bound_rules behind Unnamed)) ∷ []) kept
unnamed_each kept behind m t None = (kept, none_kept_at kept m _ (no_rules behind t), refl)
unnamed_each kept behind m t (Some n) = (kept, none_kept_at kept _ [] refl, (kept, none_kept_at kept m _ (no_rules behind t), refl))

-- nothing is left to keep
pub unnamed_use : (e : Env) (kept : Kept) (left : Left) (d : Declarator) → left.use_of_name ≡ Unnamed → KeepsUse e kept left d kept
unnamed_use e kept left d is =
    let t = (declarator_found d).type (span_at e left) left.type in
    subst (λ becomes. KeepsEach kept (name_codes left.behind t becomes (declarator_found d).name ++ codes_at (mark d.spot d.ordinal) (of_type t (struct_bound_rules left.behind becomes)) ∷ []) kept) (sym is)
    (unnamed_each kept left.behind (mark d.spot d.ordinal) t (declarator_found d).name)

-- ---- where the nodes in a declarator stand

module _ (at_end : Env) where
  abbrev Whole : Env → Left → Declarator → List Placed
  Whole e left d = at e (ADeclarator left d) ∷ []

  parts_of : (e : Env) (left : Left) (d : Declarator) (form : DeclaratorTree) → out-DeclaratorForm d.form ≡ form → AreNodesOf at_end (declarator_parts e left form) (Whole e left d)
  parts_of e left d form is = subst (λ form. AreNodesOf at_end (declarator_parts e left form) (Whole e left d)) is (nodes_of_node at_end e (ADeclarator left d) refl)

  -- by those of the declarator inside
  through_inner : (e : Env) (left next : Left) (d inner : Declarator) (form : DeclaratorTree) (ps : List Placed) → out-DeclaratorForm d.form ≡ form →
      declarator_parts e left form ≡ Whole e next inner → AreNodesOf at_end ps (Whole e next inner) → AreNodesOf at_end ps (Whole e left d)
  through_inner e left next d inner form ps is parts nodes =
      nodes_then at_end ps (Whole e next inner) (Whole e left d) nodes (subst (λ parts. AreNodesOf at_end parts (Whole e left d)) parts (parts_of e left d form is))

  -- with others behind it
  then_beside : (e : Env) (left next : Left) (d inner : Declarator) (form : DeclaratorTree) (ps qs : List Placed) → out-DeclaratorForm d.form ≡ form →
      declarator_parts e left form ≡ Whole e next inner ++ qs → AreNodesOf at_end ps (Whole e next inner) → AreNodesOf at_end (ps ++ qs) (Whole e left d)
  then_beside e left next d inner form ps qs is parts nodes =
      let whole = Whole e next inner in
      nodes_then at_end (ps ++ qs) (whole ++ qs) (Whole e left d) (nodes_beside at_end ps whole qs nodes)
      (subst (λ parts. AreNodesOf at_end parts (Whole e left d)) parts (parts_of e left d form is))

  pub nodes_inside : (e : Env) (d : Declarator) (fs : List FormAt) (has : HasForms e d fs) (left : Left) → AreNodesOf at_end (inside has) (Whole e left d)
  nodes_inside e d fs (star_alone {qs = qs} is) left = parts_of e left d (DeclaratorForm-F.Star qs None) is
  nodes_inside e d fs (star {qs = qs} {inner = inner} {fs = gs} is has) left =
      let next = inner_left left (pointer_made left.type) in
      through_inner e left next d inner (DeclaratorForm-F.Star qs (Some inner)) (inside has) is refl (nodes_inside e inner gs has next)
  nodes_inside e d fs (named {name = name} is) left = parts_of e left d (DeclaratorForm-F.Named name) is
  nodes_inside e d fs (group {inner = inner} is has) left =
      let next = record left { is_whole = false } in
      through_inner e left next d inner (DeclaratorForm-F.Group inner) (inside has) is refl (nodes_inside e inner fs has next)
  nodes_inside e d fs (array_alone {size = size} is) left = parts_of e left d (DeclaratorForm-F.ArrayOf None size) is
  nodes_inside e d fs (array {inner = inner} {size = size} {fs = gs} is has) left =
      let next = array_left e (extend e (inner_adds (Some inner) e)) left size in
      then_beside e left next d inner (DeclaratorForm-F.ArrayOf (Some inner) size) (inside has) (size_part e (Some inner) size) is refl (nodes_inside e inner gs has next)
  nodes_inside e d fs (function_alone {ps = ps} {dots = dots} is) left = parts_of e left d (DeclaratorForm-F.FunctionOf None ps dots) is
  nodes_inside e d fs (function {inner = inner} {ps = ps} {dots = dots} {fs = gs} is has) left =
      let next = function_left (extend e (inner_adds (Some inner) e)) left ps dots in
      then_beside e left next d inner (DeclaratorForm-F.FunctionOf (Some inner) ps dots) (inside has) (parameter_parts e (Some inner) ps dots) is refl (nodes_inside e inner gs has next)
