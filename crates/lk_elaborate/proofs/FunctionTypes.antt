-- The type that a function declarator beside its name makes, with the types of its parameters (C99 6.7.5.3, 5).
use Rattle.std.proofs.Common.{◌≡◌, ◌∙◌, ◌⊎◌, inl, inr, ℕ, Bool, true, false, if◌then◌else◌, List, [], ◌∷◌, Option, Some, None, refl, sym, ap, subst}
use Rattle.std.proofs.lemmas.Bool.{false≢true}
use Rattle.std.proofs.lemmas.Option.{none-some, same_Some}
use Rattle.std.specs.Prelude.{⊤}
use Rattle.lk_base.specs.declared.spot.Spot.{Spot}
use Rattle.lk_tree.specs.declared.expression.DeclaratorForm.TheOpen.{DeclaratorForm-F}
use Rattle.lk_tree.specs.declared.expression.DeclaratorForm.TheFolds.{ind-Declarator, map-DeclaratorForm}
use Rattle.lk_tree.specs.declared.expression.DeclaratorForm.TheVariants as forms
use Rattle.lk_tree.specs.declared.specifiers.Qualifier.{Qualifier}
use Rattle.lk_tree.specs.declared.expression.DeclaratorForm.{DeclaratorForm, out-DeclaratorForm, out-roll-DeclaratorForm}
use Rattle.lk_tree.specs.declared.expression.Declarator.{Declarator, roll-Declarator}
use Rattle.lk_tree.specs.declared.expression.Expr.{Expr}
use Rattle.lk_tree.specs.declared.expression.ExprForm.{ExprForm}
use Rattle.lk_tree.specs.declared.expression.Item.{Item}
use Rattle.lk_tree.specs.declared.expression.Member.{Member}
use Rattle.lk_tree.specs.declared.expression.MemberDeclarator.{MemberDeclarator}
use Rattle.lk_tree.specs.declared.expression.Parameter.{Parameter}
use Rattle.lk_tree.specs.declared.expression.Specifier.{Specifier}
use Rattle.lk_tree.specs.declared.expression.TypeName.{TypeName}
use Rattle.lk_typed.specs.DeclaratorRules.{function_rules}
use Rattle.lk_typed.specs.Env.{Env, enter, extend, nothing}
use Rattle.lk_typed.specs.Expressions.{declarator_found, declarator_layer}
use Rattle.lk_typed.specs.Faults.{Breach}
use Rattle.lk_typed.specs.Layers.{DeclaratorLayer, function_by, function_type, parameters_of}
use Rattle.lk_typed.specs.Locals.{HasParameters}
use Rattle.lk_typed.specs.Locals.HasParameters.{beside, in_array, in_function, in_group, in_pointer}
use Rattle.lk_typed.specs.MemberRules.{within_bounds}
use Rattle.lk_typed.specs.Parts.{tellers}
use Rattle.lk_typed.specs.Bounds.{is_large}
use Rattle.lk_typed.specs.MemberRules as bounds
use Rattle.lk_typed.specs.Telling.{in_declarator}
use Rattle.lk_typed.specs.Told.{DeclaratorTold, Span, then_type, unless_broken}
use Rattle.lk_typed.specs.Ty.{Function, Ty, types_of}
use Rattle.lk_rules.specs.LayerLaws.{DeclaratorTree, declarator_parts_told}
use Rattle.lk_rules.proofs.Layered.{declarators_follow_their_forms}
use Rattle.lk_nodes.proofs.Lists.{With}
use Rattle.lk_nodes.proofs.Trees.{extend_nothing}
use Rattle.lk_found.proofs.FormsOf.{told_by, form_of}
use Rattle.lk_found.specs.Walked.{layer_of}
use Rattle.lk_elaborate.specs.PuttingParameters.{HasBeside, HasBesideInside}

-- ---- a declarator that is a name alone makes nothing of the type on its left

record IsBare (told : DeclaratorTold) : Type 0 where
  additions : (env : Env) → told.additions env ≡ nothing
  type : (span : Span) (t : Option Ty) → told.type span t ≡ t

abbrev BareByName : DeclaratorLayer → Type 0
BareByName l = l.is_name ≡ true → IsBare l.told

abbrev IsBareByName : Declarator → Type 0
IsBareByName d = BareByName (declarator_layer d)

-- of the declarator inside, where that may be the name
abbrev Inside : DeclaratorTree → Type 0
Inside (DeclaratorForm-F.Star qualifiers inner) = ⊤
Inside (DeclaratorForm-F.Named name) = ⊤
Inside (DeclaratorForm-F.Group inner) = IsBareByName inner
Inside (DeclaratorForm-F.ArrayOf inner size) = ⊤
Inside (DeclaratorForm-F.FunctionOf inner ps dots) = ⊤

by_form : (x : DeclaratorTree) (spot : Spot) (n : ℕ) → Inside x → BareByName (in_declarator (declarator_parts_told x) spot n)
by_form (DeclaratorForm-F.Star qualifiers inner) spot n holds is = absurd (false≢true is)
by_form (DeclaratorForm-F.Named name) spot n holds is = record { additions = λ env. refl; type = λ span t. refl }
by_form (DeclaratorForm-F.Group inner) spot n holds is = holds is
by_form (DeclaratorForm-F.ArrayOf inner size) spot n holds is = absurd (false≢true is)
by_form (DeclaratorForm-F.FunctionOf inner ps dots) spot n holds is = absurd (false≢true is)

by_its_form : (d : Declarator) → Inside (out-DeclaratorForm d.form) → IsBareByName d
by_its_form d holds = subst BareByName (sym (declarators_follow_their_forms d)) (by_form (out-DeclaratorForm d.form) d.spot d.ordinal holds)

-- what holds of all
abbrev Always : (A : Type 0) → A → Type 0
Always A a = ⊤

abbrev InsideForm : DeclaratorForm → Type 0
InsideForm form = Inside (out-DeclaratorForm form)

inside_layer : (y : DeclaratorForm-F (With InsideForm) (With (Always ExprForm)) (With (Always MemberDeclarator)) (With (Always Specifier)) (With IsBareByName) (With (Always Expr)) (With (Always Item)) (With (Always Member)) (With (Always Parameter)) (With (Always TypeName))) → Inside (map-DeclaratorForm (With InsideForm) (With (Always ExprForm)) (With (Always MemberDeclarator)) (With (Always Specifier)) (With IsBareByName) (With (Always Expr)) (With (Always Item)) (With (Always Member)) (With (Always Parameter)) (With (Always TypeName)) DeclaratorForm ExprForm MemberDeclarator Specifier Declarator Expr Item Member Parameter TypeName (λ a. a.0) (λ a. a.0) (λ a. a.0) (λ a. a.0) (λ a. a.0) (λ a. a.0) (λ a. a.0) (λ a. a.0) (λ a. a.0) (λ a. a.0) y)
inside_layer (DeclaratorForm-F.Star qualifiers inner) = tt
inside_layer (DeclaratorForm-F.Named name) = tt
inside_layer (DeclaratorForm-F.Group inner) = inner.1
inside_layer (DeclaratorForm-F.ArrayOf inner size) = tt
inside_layer (DeclaratorForm-F.FunctionOf inner ps dots) = tt

bare_by_name : (d : Declarator) → IsBareByName d
bare_by_name =
    ind-Declarator InsideForm (Always ExprForm) (Always MemberDeclarator) (Always Specifier) IsBareByName (Always Expr) (Always Item) (Always Member) (Always Parameter) (Always TypeName)
    (λ x y is. subst Inside (is ∙ sym (out-roll-DeclaratorForm x)) (inside_layer y)) (λ x y is. tt) (λ x y is. tt) (λ x y is. tt)
    (λ x y is. by_its_form (roll-Declarator x) (subst InsideForm (ap (λ x. x.form) is) y.form.1)) (λ x y is. tt) (λ x y is. tt) (λ x y is. tt) (λ x y is. tt) (λ x y is. tt)

-- whether it is one, by its form
pub name_by : (d : Declarator) (form : DeclaratorTree) → out-DeclaratorForm d.form ≡ form → (in_declarator (declarator_parts_told form) d.spot d.ordinal).is_name ≡ (declarator_layer d).is_name
name_by d form is = sym (ap (λ (l : DeclaratorLayer). l.is_name) (told_by d form is))

-- no pointer, array or function is one
pub never_name : (d : Declarator) → ((qualifiers : List Qualifier) × (inner : Option Declarator) × (d.form ≡ forms.Star qualifiers inner)) ⊎
    (((inner : Option Declarator) × (size : Option Expr) × (d.form ≡ forms.ArrayOf inner size)) ⊎
    ((inner : Option Declarator) × (ps : List Parameter) × (dots : Bool) × (d.form ≡ forms.FunctionOf inner ps dots))) → false ≡ (declarator_layer d).is_name
never_name d (inl is) = name_by d (DeclaratorForm-F.Star is.0 is.1) (form_of d _ _ is.2 (forms.rolls-Star is.0 is.1))
never_name d (inr (inl is)) = name_by d (DeclaratorForm-F.ArrayOf is.0 is.1) (form_of d _ _ is.2 (forms.rolls-ArrayOf is.0 is.1))
never_name d (inr (inr is)) = name_by d (DeclaratorForm-F.FunctionOf is.0 is.1 is.2) (form_of d _ _ is.3 (forms.rolls-FunctionOf is.0 is.1 is.2))

-- ---- the parameters that stand beside the name

pub beside_there : {d : Declarator} (inner : Option Declarator) {ps : List Parameter} {dots : Bool} → out-DeclaratorForm d.form ≡ DeclaratorForm-F.FunctionOf inner ps dots → (layer_of inner).is_name ≡ true →
    HasBeside d ps
beside_there None form is_name = absurd (false≢true is_name)
beside_there (Some inner) {dots = dots} form is_name = (dots, beside form is_name)

pub inside_function : {d : Declarator} (inner : Option Declarator) {others ps : List Parameter} {other : Bool} → out-DeclaratorForm d.form ≡ DeclaratorForm-F.FunctionOf inner others other →
    (layer_of inner).is_name ≡ false → HasBesideInside inner ps → HasBeside d ps
inside_function None form is_name has = absurd has
inside_function (Some inner) form is_name has = (has.0, in_function form is_name has.1)

pub inside_pointer : {d : Declarator} (inner : Option Declarator) {qualifiers : List Qualifier} {ps : List Parameter} → out-DeclaratorForm d.form ≡ DeclaratorForm-F.Star qualifiers inner →
    HasBesideInside inner ps → HasBeside d ps
inside_pointer None form has = absurd has
inside_pointer (Some inner) form has = (has.0, in_pointer form has.1)

pub inside_array : {d : Declarator} (inner : Option Declarator) {size : Option Expr} {ps : List Parameter} → out-DeclaratorForm d.form ≡ DeclaratorForm-F.ArrayOf inner size → HasBesideInside inner ps → HasBeside d ps
inside_array None form has = absurd has
inside_array (Some inner) form has = (has.0, in_array form has.1)

pub inside_group : {d inner : Declarator} {ps : List Parameter} → out-DeclaratorForm d.form ≡ DeclaratorForm-F.Group inner → HasBeside inner ps → HasBeside d ps
inside_group form has = (has.0, in_group form has.1)

-- ---- a function

-- a function with these parameters
pub record IsFunctionOf (env : Env) (ps : List Parameter) (dots : Bool) (t : Ty) : Type 0 where
  pub result : Ty
  pub params : List Ty
  pub is : t ≡ Function result (types_of params) dots
  pub types : (parameters_of (tellers ps) dots (enter env)).types ≡ Some params

unbroken : (bs : List Breach) (o : Option Ty) (t : Ty) → unless_broken bs o ≡ Some t → o ≡ Some t
unbroken [] o t is = is
unbroken (b ∷ bs) o t is = absurd (none-some t is)

within : (env : Env) (o : Option Ty) (t : Ty) → within_bounds env o ≡ Some t → o ≡ Some t
within env None t is = is
within env (Some u) t is = by_test (is_large (bounds.fields_in env) u) is
  where
    by_test : (b : Bool) → (if b then None else Some u) ≡ Some t → Some u ≡ Some t
    by_test true is = absurd (none-some t is)
    by_test false is = is

function_made : (env : Env) (ps : List Parameter) (dots : Bool) (types : Option (List Ty)) (left : Option Ty) (t : Ty) → (parameters_of (tellers ps) dots (enter env)).types ≡ types →
    then_type left (function_type dots types) ≡ Some t → IsFunctionOf env ps dots t
function_made env ps dots types None t same is = absurd (none-some t is)
function_made env ps dots None (Some r) t same is = absurd (none-some t is)
function_made env ps dots (Some params) (Some r) t same is = record { result = r; params = params; is = sym (same_Some _ t is); types = same }

-- the type of a declarator by its form
type_told : Span → Option Ty → DeclaratorLayer → Option Ty
type_told span left l = l.told.type span left

pub made_beside : {d : Declarator} {ps : List Parameter} {dots : Bool} → HasParameters d ps dots → (span : Span) (left : Option Ty) (t : Ty) → (declarator_found d).type span left ≡ Some t →
    IsFunctionOf span.env ps dots t
unfolding type_told
made_beside {d} {ps} {dots} (beside {inner = inner} form is_name) span left t is =
    let bare = bare_by_name inner is_name in
    let by = λ (env : Env). (parameters_of (tellers ps) dots (enter env)).types in
    let made = sym (bare.type span (within_bounds span.behind (function_by dots (by (extend span.env ((declarator_found inner).additions span.env))) left))) ∙
    (sym (ap (type_told span left) (told_by d _ form)) ∙ is) in
    let there = ap (extend span.env) (bare.additions span.env) ∙ extend_nothing span.env in
    let made = subst (λ env. within_bounds span.behind (function_by dots (by env) left) ≡ Some t) there made in
    function_made span.env ps dots (by span.env) left t refl (unbroken (function_rules left) _ t (within span.behind _ t made))
made_beside {d} (in_function form is_name inside) span left t is = made_beside inside span _ t (sym (ap (type_told span left) (told_by d _ form)) ∙ is)
made_beside {d} (in_pointer form inside) span left t is = made_beside inside span _ t (sym (ap (type_told span left) (told_by d _ form)) ∙ is)
made_beside {d} (in_group form inside) span left t is = made_beside inside span left t (sym (ap (type_told span left) (told_by d _ form)) ∙ is)
made_beside {d} (in_array {size = None} form inside) span left t is = made_beside inside span _ t (sym (ap (type_told span left) (told_by d _ form)) ∙ is)
made_beside {d} (in_array {size = Some size} form inside) span left t is = made_beside inside span _ t (sym (ap (type_told span left) (told_by d _ form)) ∙ is)
