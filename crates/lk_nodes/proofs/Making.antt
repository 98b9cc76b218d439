-- The type that a declarator makes of the one on its left: an array has elements of a complete type (C99 6.7.5.2, 1), and where no rule is broken a declared object with an initialiser holds
-- complete structs alone (6.7, 7; 6.9.2, 1).
use Rattle.std.proofs.Common.{◌≡◌, ◌∙◌, inl, ℕ, Bool, true, false, List, [], ◌++◌, Option, Some, None, option_map, refl, sym, ap, subst}
use Rattle.std.specs.Prelude.{⊤, ◌&&◌, ◌||◌, not, if◌then◌else◌, ℤ}
use Rattle.std.proofs.lemmas.Bool.{false≢true}
use Rattle.lk_base.specs.declared.code.Code.TheVariants.{Incomplete, Mismatch}
use Rattle.lk_base.specs.declared.spot.Spot.{Spot}
use Rattle.lk_tree.specs.declared.expression.DeclaratorForm.TheOpen.{DeclaratorForm-F}
use Rattle.lk_tree.specs.declared.expression.DeclaratorForm.TheFolds.{ind-Declarator, map-DeclaratorForm}
use Rattle.lk_tree.specs.declared.expression.DeclaratorForm.{DeclaratorForm, out-DeclaratorForm, out-roll-DeclaratorForm}
use Rattle.lk_tree.specs.declared.expression.Declarator.{Declarator, roll-Declarator}
use Rattle.lk_tree.specs.declared.expression.Expr.{Expr}
use Rattle.lk_tree.specs.declared.expression.ExprForm.{ExprForm}
use Rattle.lk_tree.specs.declared.expression.Item.{Item}
use Rattle.lk_tree.specs.declared.expression.Member.{Member}
use Rattle.lk_tree.specs.declared.expression.MemberDeclarator.{MemberDeclarator}
use Rattle.lk_tree.specs.declared.expression.Parameter.{Parameter}
use Rattle.lk_tree.specs.declared.expression.Specifier.{Specifier}
use Rattle.lk_tree.specs.declared.expression.TypeName.{TypeName}
use Rattle.lk_tree.specs.declared.specifiers.Storage.{Storage}
use Rattle.lk_typed.specs.DeclarationRules.{AtFile, Bare, Defined, InBlock, Initialised, Scope, has, is_complete_object, is_extern, is_typedef, linkage_of, may_be_given, may_be_main, may_be_static, named_rules}
use Rattle.lk_typed.specs.Declarations.{declared_as}
use Rattle.lk_typed.specs.DeclaratorRules.{Size, array_made, array_of_size, array_rules, array_type, function_rules, of_type, pointer_rules, unless}
use Rattle.lk_typed.specs.Env.{Env, Members, Name, extend}
use Rattle.lk_typed.specs.Expressions.{declarator_found, declarator_layer, expression}
use Rattle.lk_typed.specs.InitialiserRules.{given_rules}
use Rattle.lk_typed.specs.Layers.{DeclaratorLayer, array_by, inner_of, function_by, function_type, pointer_made}
use Rattle.lk_typed.specs.MemberRules.{within_bounds}
use Rattle.lk_typed.specs.NodeParts.{parts}
use Rattle.lk_typed.specs.NodeRules.{are_typed, breaches, form_rules, is_declaration, name_use_rules, whole_rules}
use Rattle.lk_typed.specs.Nodes.{Node, ADeclarator, Declares, IsMember, IsParameter, Unnamed, Left, NameUse, Placed, at}
use Rattle.lk_typed.specs.Parts.{array_left, declarator_parts, inner_adds, span_at}
use Rattle.lk_typed.specs.Redeclared.{name_rules}
use Rattle.lk_typed.specs.Sizes.{is_broken, is_complete}
use Rattle.lk_typed.specs.Stands.{IsIn}
use Rattle.lk_typed.specs.Stands.Stands.{here, inside}
use Rattle.lk_typed.specs.Telling.{in_declarator, size_of}
use Rattle.lk_typed.specs.Told.{Span, some_type, then_type}
use Rattle.lk_typed.specs.Ty.{Ty, Pointer, is_array, is_function}
use Rattle.lk_typed.specs.Typing.{known_value}
use Rattle.lk_rules.specs.LayerLaws.{DeclaratorTree, declarator_parts_told}
use Rattle.lk_rules.proofs.Layered.{declarators_follow_their_forms}
use Rattle.lk_nodes.proofs.Elements.{HoldsComplete, MayHold, by_bounds, by_unbroken, elements_holding, may_holding_elements, may_holding_stays}
use Rattle.lk_nodes.proofs.Laid.{StandsIn}
use Rattle.lk_nodes.proofs.Lists.{IfThere, With}
use Rattle.lk_nodes.proofs.Rules.{none_before, none_behind, rule_holds}
use Rattle.lk_nodes.proofs.Structs.{HasElements, KnownStay, MayHaveElements, elements_stay}

-- ---- what each form makes

-- a pointer holds no struct
pointer_holds : (structs : List Members) (t : Option Ty) → MayHold structs (pointer_made t)
pointer_holds structs t = by_unbroken (HoldsComplete structs) (pointer_rules t) (some_type Pointer t) (λ none. by_target t)
  where
    by_target : (t : Option Ty) → MayHold structs (some_type Pointer t)
    by_target None = tt
    by_target (Some t) = tt

-- nor does a function
function_holds : (structs : List Members) (dots : Bool) (types : Option (List Ty)) (t : Option Ty) → MayHold structs (function_by dots types t)
function_holds structs dots types t = by_unbroken (HoldsComplete structs) (function_rules t) (then_type t (function_type dots types)) (λ none. by_result t types)
  where
    by_result : (t : Option Ty) (types : Option (List Ty)) → MayHold structs (then_type t (function_type dots types))
    by_result None types = tt
    by_result (Some t) None = tt
    by_result (Some t) (Some ts) = tt

-- the elements of an array are complete
array_holds : (span : Span) (n : Size) (t : Option Ty) → MayHold span.env.structs (array_by span n t)
array_holds span n None = by_unbroken (HoldsComplete span.env.structs) (array_rules span.env span.may_be_absent None n) None (λ none. tt)
array_holds span n (Some t) =
    by_unbroken (HoldsComplete span.env.structs) (array_rules span.env span.may_be_absent (Some t) n) (array_made span.env.structs n t)
    (λ none. by_broken (is_broken span.env.structs t) (rule_holds _ Incomplete (none_before (unless (is_complete span.env.structs t) Incomplete) _ none)))
  where
    by_known : (z : Option ℤ) → is_complete span.env.structs t ≡ true → MayHold span.env.structs (array_of_size z t)
    by_known None is = tt
    by_known (Some z) is = is

    by_size : (n : Size) → is_complete span.env.structs t ≡ true → MayHold span.env.structs (array_type n t)
    by_size None is = is
    by_size (Some None) is = tt
    by_size (Some (Some c)) is = by_known (known_value c) is

    by_broken : (b : Bool) → is_complete span.env.structs t ≡ true → MayHold span.env.structs (if b then None else array_type n t)
    by_broken true is = tt
    by_broken false is = by_size n is

-- ---- the name

-- where none of three holds, neither of the first two does
not_extern : (x y z : Bool) → not (x || y || z) ≡ true → not (x || y) ≡ true
not_extern true y z is = is
not_extern false true z is = is
not_extern false false z is = refl

-- what is wanted is there, or stands for it
wanted : (w a c : Bool) → not w ≡ true → (not (not w) || a || c) ≡ true → (a || c) ≡ true
wanted true a c may is = absurd (false≢true may)
wanted false a c may is = is

-- the first of two tests
both_first : (b c : Bool) → (b && c) ≡ true → b ≡ true
both_first true c is = refl
both_first false c is = is

-- a name that breaks no rule has a complete type, or an array whose elements are complete
name_holds : (env at_end : Env) (scope : Scope) (ss : List Storage) (name : Name) (t : Ty) → named_rules env at_end scope ss name t Initialised ≡ [] → HasElements env.structs t →
    HoldsComplete env.structs t
name_holds env at_end scope ss name t none complete =
    let may = rule_holds (may_be_given scope ss t Initialised && may_be_static scope ss t && may_be_main name (linkage_of env scope ss (is_function t) name) t) Mismatch (none_before _ _ none) in
    let is = rule_holds (is_complete_object env at_end scope ss t Initialised) Incomplete (none_behind (unless _ Mismatch) _ none) in
    elements_holding env.structs t complete (by_scope scope (both_first _ _ (both_first _ _ may)) is)
  where
    by_scope : (scope : Scope) → may_be_given scope ss t Initialised ≡ true → is_complete_object env at_end scope ss t Initialised ≡ true → (is_array t || is_complete env.structs t) ≡ true
    by_scope AtFile may is = wanted (has is_typedef ss || is_function t) (is_array t) (is_complete env.structs t) may is
    by_scope InBlock may is = wanted (has is_typedef ss || is_function t) (is_array t) (is_complete env.structs t) (not_extern (has is_typedef ss) (is_function t) (has is_extern ss) may) is

-- a declared object is given an initialiser
abbrev pub IsGiven : NameUse → Type 0
IsGiven (Declares scope ss Bare n e) = ⊥
IsGiven (Declares scope ss Initialised n e) = ⊤
IsGiven (Declares scope ss Defined n e) = ⊥
IsGiven (IsMember before) = ⊥
IsGiven IsParameter = ⊥
IsGiven Unnamed = ⊥

module _ (at_end : Env) where
  -- no rule is broken at what stands in a node, declarations aside
  abbrev pub Unbroken : Env → Node → Type 0
  Unbroken env node = (env' : Env) (node' : Node) → StandsIn at_end env node env' node' → is_declaration node' ≡ false → breaches at_end env' node' ≡ []

  -- so it is with its parts
  pub unbroken_part : {env : Env} {node : Node} (p : Placed) → Unbroken env node → IsIn p (parts at_end env node) → Unbroken p.env p.node
  unbroken_part p unbroken is env' node' stands = unbroken env' node' (inside p is stands)

  -- a declarator keeps elements complete, and makes such an object where it breaks no rule
  pub record Makes (d : Declarator) : Type 0 where
    pub elements : (span : Span) (t : Option Ty) → MayHaveElements span.env.structs t → MayHaveElements span.env.structs ((declarator_found d).type span t)
    pub holds : (env : Env) (left : Left) → IsGiven left.use_of_name → KnownStay env.structs left.behind.structs → MayHaveElements env.structs left.type → Unbroken env (ADeclarator left d) →
        MayHold left.behind.structs ((declarator_found d).type (span_at env left) left.type)

  -- this holds of the declarator inside
  abbrev Inside : DeclaratorTree → Type 0
  Inside (DeclaratorForm-F.Star qualifiers inner) = IfThere Makes inner
  Inside (DeclaratorForm-F.Named name) = ⊤
  Inside (DeclaratorForm-F.Group inner) = Makes inner
  Inside (DeclaratorForm-F.ArrayOf inner size) = IfThere Makes inner
  Inside (DeclaratorForm-F.FunctionOf inner ps dots) = IfThere Makes inner

  -- the size of an array, behind the declarator inside
  abbrev array_size : Option Declarator → Option Expr → Env → Size
  array_size inner size env = size_of (option_map expression size) (extend env ((inner_of (option_map declarator_layer inner)).told.additions env))

  -- what a form makes
  abbrev form_type : DeclaratorTree → Spot → ℕ → Span → Option Ty → Option Ty
  form_type x spot n = (in_declarator (declarator_parts_told x) spot n).told.type

  -- types that hold complete structs have complete elements, over a bound or not
  bounded : (span : Span) (t : Option Ty) → MayHold span.env.structs t → MayHaveElements span.env.structs (within_bounds span.behind t)
  bounded span t holds = may_holding_elements span.env.structs _ (by_bounds (HoldsComplete span.env.structs) span.behind t holds)

  -- a form keeps elements complete
  elements_of : (x : DeclaratorTree) (spot : Spot) (n : ℕ) → Inside x → (span : Span) (t : Option Ty) → MayHaveElements span.env.structs t →
      MayHaveElements span.env.structs (form_type x spot n span t)
  elements_of (DeclaratorForm-F.Star qualifiers None) spot n makes span t complete = bounded span _ (pointer_holds span.env.structs t)
  elements_of (DeclaratorForm-F.Star qualifiers (Some inner)) spot n makes span t complete = makes.elements span _ (bounded span _ (pointer_holds span.env.structs t))
  elements_of (DeclaratorForm-F.Named name) spot n makes span t complete = complete
  elements_of (DeclaratorForm-F.Group inner) spot n makes span t complete = makes.elements span t complete
  elements_of (DeclaratorForm-F.ArrayOf None size) spot n makes span t complete = bounded span _ (array_holds span (array_size None size span.env) t)
  elements_of (DeclaratorForm-F.ArrayOf (Some inner) size) spot n makes span t complete = makes.elements span _ (bounded span _ (array_holds span (array_size (Some inner) size span.env) t))
  elements_of (DeclaratorForm-F.FunctionOf None ps dots) spot n makes span t complete = bounded span _ (function_holds span.env.structs dots _ t)
  elements_of (DeclaratorForm-F.FunctionOf (Some inner) ps dots) spot n makes span t complete = makes.elements span _ (bounded span _ (function_holds span.env.structs dots _ t))

  -- the name alone
  name_made : (env : Env) (left : Left) (d : Declarator) (name : Name) → out-DeclaratorForm d.form ≡ DeclaratorForm-F.Named name → IsGiven left.use_of_name →
      KnownStay env.structs left.behind.structs → MayHaveElements env.structs left.type → Unbroken env (ADeclarator left d) → MayHold left.behind.structs left.type
  name_made env left d name form given stays complete unbroken =
      by_use left.use_of_name given
      (none_before (form_rules env left (DeclaratorForm-F.Named name)) (whole_rules env left d)
      (subst (λ x. (if are_typed (declarator_parts env left x) then form_rules env left x ++ whole_rules env left d else []) ≡ []) form (unbroken env (ADeclarator left d) here refl)))
    where
      by_type : (scope : Scope) (ss : List Storage) (e : Env) (t : Option Ty) → MayHaveElements env.structs t → of_type t (λ t. named_rules left.behind e scope ss name t Initialised) ≡ [] →
          MayHold left.behind.structs t
      by_type scope ss e None complete none = tt
      by_type scope ss e (Some t) complete none = name_holds left.behind e scope ss name t none (elements_stay env.structs left.behind.structs stays t complete)

      by_use : (use_of_name : NameUse) → IsGiven use_of_name → name_use_rules left.behind left.type name use_of_name ≡ [] → MayHold left.behind.structs left.type
      by_use (Declares scope ss Bare n e) given none = absurd given
      by_use (Declares scope ss Initialised n e) given none =
          by_type scope ss e left.type complete
          (none_behind (name_rules left.behind (declared_as left.behind scope ss Initialised None name 0 left.type)) _ (none_before _ (given_rules n) none))
      by_use (Declares scope ss Defined n e) given none = absurd given
      by_use (IsMember before) given none = absurd given
      by_use IsParameter given none = absurd given
      by_use Unnamed given none = absurd given

  -- a declarator inside
  inner_made : (env : Env) (left l : Left) (d inner : Declarator) (x : DeclaratorTree) → out-DeclaratorForm d.form ≡ x → IsIn (at env (ADeclarator l inner)) (declarator_parts env left x) →
      Unbroken env (ADeclarator left d) → Unbroken env (ADeclarator l inner)
  inner_made env left l d inner x form is unbroken =
      unbroken_part (at env (ADeclarator l inner)) unbroken (subst (λ x. IsIn (at env (ADeclarator l inner)) (declarator_parts env left x)) (sym form) is)

  -- a form makes such an object
  holds_of : (d : Declarator) (x : DeclaratorTree) → out-DeclaratorForm d.form ≡ x → Inside x → (env : Env) (left : Left) → IsGiven left.use_of_name → KnownStay env.structs left.behind.structs →
      MayHaveElements env.structs left.type → Unbroken env (ADeclarator left d) → MayHold left.behind.structs (form_type x d.spot d.ordinal (span_at env left) left.type)
  holds_of d (DeclaratorForm-F.Star qualifiers None) form makes env left given stays complete unbroken =
      by_bounds (HoldsComplete left.behind.structs) left.behind _ (pointer_holds left.behind.structs left.type)
  holds_of d (DeclaratorForm-F.Star qualifiers (Some inner)) form makes env left given stays complete unbroken =
      makes.holds env _ given stays (bounded (span_at env left) _ (pointer_holds env.structs left.type)) (inner_made env left _ d inner _ form (inl refl) unbroken)
  holds_of d (DeclaratorForm-F.Named name) form makes env left given stays complete unbroken = name_made env left d name form given stays complete unbroken
  holds_of d (DeclaratorForm-F.Group inner) form makes env left given stays complete unbroken = makes.holds env _ given stays complete (inner_made env left _ d inner _ form (inl refl) unbroken)
  holds_of d (DeclaratorForm-F.ArrayOf None size) form makes env left given stays complete unbroken =
      by_bounds (HoldsComplete left.behind.structs) left.behind _ (may_holding_stays env.structs left.behind.structs stays _ (array_holds (span_at env left) (array_size None size env) left.type))
  holds_of d (DeclaratorForm-F.ArrayOf (Some inner) None) form makes env left given stays complete unbroken =
      makes.holds env (array_left env (extend env (inner_adds (Some inner) env)) left None) given stays
      (bounded (span_at env left) _ (array_holds (span_at env left) (array_size (Some inner) None env) left.type)) (inner_made env left _ d inner _ form (inl refl) unbroken)
  holds_of d (DeclaratorForm-F.ArrayOf (Some inner) (Some size)) form makes env left given stays complete unbroken =
      makes.holds env (array_left env (extend env (inner_adds (Some inner) env)) left (Some size)) given stays
      (bounded (span_at env left) _ (array_holds (span_at env left) (array_size (Some inner) (Some size) env) left.type)) (inner_made env left _ d inner _ form (inl refl) unbroken)
  holds_of d (DeclaratorForm-F.FunctionOf None ps dots) form makes env left given stays complete unbroken =
      by_bounds (HoldsComplete left.behind.structs) left.behind _ (function_holds left.behind.structs dots _ left.type)
  holds_of d (DeclaratorForm-F.FunctionOf (Some inner) ps dots) form makes env left given stays complete unbroken =
      makes.holds env _ given stays (bounded (span_at env left) _ (function_holds env.structs dots _ left.type)) (inner_made env left _ d inner _ form (inl refl) unbroken)

  -- a declarator, by its form
  makes_by : (d : Declarator) → Inside (out-DeclaratorForm d.form) → Makes d
  makes_by d makes =
      record {
        elements = λ span t complete.
            subst (λ (l : DeclaratorLayer). MayHaveElements span.env.structs (l.told.type span t)) (sym (declarators_follow_their_forms d))
            (elements_of (out-DeclaratorForm d.form) d.spot d.ordinal makes span t complete);
        holds = λ env left given stays complete unbroken.
            subst (λ (l : DeclaratorLayer). MayHold left.behind.structs (l.told.type (span_at env left) left.type)) (sym (declarators_follow_their_forms d))
            (holds_of d (out-DeclaratorForm d.form) refl makes env left given stays complete unbroken);
      }

  -- ---- all declarators

  -- what holds of all
  abbrev Always : (A : Type 0) → A → Type 0
  Always A a = ⊤

  -- this holds of the declarator inside a form
  abbrev InsideForm : DeclaratorForm → Type 0
  InsideForm form = Inside (out-DeclaratorForm form)

  -- this holds of the declarator inside a layer of such declarators
  inside_layer : (y : DeclaratorForm-F (With InsideForm) (With (Always ExprForm)) (With (Always MemberDeclarator)) (With (Always Specifier)) (With Makes) (With (Always Expr)) (With (Always Item)) (With (Always Member)) (With (Always Parameter)) (With (Always TypeName))) → Inside (map-DeclaratorForm (With InsideForm) (With (Always ExprForm)) (With (Always MemberDeclarator)) (With (Always Specifier)) (With Makes) (With (Always Expr)) (With (Always Item)) (With (Always Member)) (With (Always Parameter)) (With (Always TypeName)) DeclaratorForm ExprForm MemberDeclarator Specifier Declarator Expr Item Member Parameter TypeName (λ a. a.0) (λ a. a.0) (λ a. a.0) (λ a. a.0) (λ a. a.0) (λ a. a.0) (λ a. a.0) (λ a. a.0) (λ a. a.0) (λ a. a.0) y)
  inside_layer (DeclaratorForm-F.Star qualifiers None) = tt
  inside_layer (DeclaratorForm-F.Star qualifiers (Some inner)) = inner.1
  inside_layer (DeclaratorForm-F.Named name) = tt
  inside_layer (DeclaratorForm-F.Group inner) = inner.1
  inside_layer (DeclaratorForm-F.ArrayOf None None) = tt
  inside_layer (DeclaratorForm-F.ArrayOf None (Some size)) = tt
  inside_layer (DeclaratorForm-F.ArrayOf (Some inner) None) = inner.1
  inside_layer (DeclaratorForm-F.ArrayOf (Some inner) (Some size)) = inner.1
  inside_layer (DeclaratorForm-F.FunctionOf None ps dots) = tt
  inside_layer (DeclaratorForm-F.FunctionOf (Some inner) ps dots) = inner.1

  -- each declarator
  pub declarator_makes : (d : Declarator) → Makes d
  declarator_makes =
      ind-Declarator InsideForm (Always ExprForm) (Always MemberDeclarator) (Always Specifier) Makes (Always Expr) (Always Item) (Always Member) (Always Parameter) (Always TypeName)
      (λ x y is. subst Inside (is ∙ sym (out-roll-DeclaratorForm x)) (inside_layer y)) (λ x y is. tt) (λ x y is. tt) (λ x y is. tt)
      (λ x y is. makes_by (roll-Declarator x) (subst InsideForm (ap (λ x. x.form) is) y.form.1)) (λ x y is. tt) (λ x y is. tt) (λ x y is. tt) (λ x y is. tt) (λ x y is. tt)
