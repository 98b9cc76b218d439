-- The ordinals of a tree leave its places as they are.
use Rattle.std.proofs.Common.{◌≡◌, ◌∙◌, ℕ, ◌+◌, Bool, List, Option, Some, None, map, refl, sym, ap, subst}
use Rattle.std.specs.Option.{option_map}
use Rattle.lk_base.specs.declared.spot.Spot.{Spot}
use Rattle.lk_tree.specs.declared.expression.DeclaratorForm.TheOpen.{DeclaratorForm-F, Item-F, Parameter-F, TypeName-F}
use Rattle.lk_tree.specs.declared.expression.DeclaratorForm.TheFolds.{fold_out-DeclaratorForm, fold_out-ExprForm, fold_out-MemberDeclarator, fold_out-Specifier, fold_out-Declarator, fold_out-Expr, fold_out-Item, fold_out-Member, fold_out-Parameter, fold_out-TypeName, map-DeclaratorForm, map-ExprForm, map-MemberDeclarator, map-Specifier, map-Item, map-Parameter, map-TypeName}
use Rattle.lk_tree.specs.declared.expression.DeclaratorForm.{DeclaratorForm, out-DeclaratorForm}
use Rattle.lk_tree.specs.declared.expression.DeclaratorForm.TheVariants as d
use Rattle.lk_tree.specs.declared.expression.ExprForm.{ExprForm, out-ExprForm}
use Rattle.lk_tree.specs.declared.expression.ExprForm.TheVariants as e
use Rattle.lk_tree.specs.declared.expression.MemberDeclarator.{MemberDeclarator, out-MemberDeclarator}
use Rattle.lk_tree.specs.declared.expression.MemberDeclarator.TheVariants as m
use Rattle.lk_tree.specs.declared.expression.Specifier.{Specifier, out-Specifier}
use Rattle.lk_tree.specs.declared.expression.Specifier.TheVariants as v
use Rattle.lk_tree.specs.declared.expression.Declarator.{Declarator}
use Rattle.lk_tree.specs.declared.expression.Expr.{Expr}
use Rattle.lk_tree.specs.declared.expression.Item.{Item, out-Item, roll-Item}
use Rattle.lk_tree.specs.declared.expression.Member.{Member}
use Rattle.lk_tree.specs.declared.expression.Parameter.{Parameter, out-Parameter, roll-Parameter}
use Rattle.lk_tree.specs.declared.expression.TypeName.{TypeName, out-TypeName, roll-TypeName}
use Rattle.lk_tree.specs.declared.specifiers.Qualifier.{Qualifier}
use Rattle.lk_tree.specs.Numbers.{Numbered, list, optional, expr, declarator, specifier, in_declarator, in_expr, of_member_declarator, of_specifier, of_declarator, of_expr, of_item, of_member, of_parameter, of_type_name, DeclaratorFormLayer, ExprFormLayer, MemberDeclaratorLayer}
use Rattle.lk_tree.specs.Numbers as numbers
use Rattle.lk_ordinals.specs.Parts as f
use Rattle.lk_spots.specs.Places as s
use Rattle.lk_spots.specs.Places.{ExprLayer, DeclaratorLayer, SpecifierLayer, FieldLayer, ExprSpots, ExprFormSpots, TypeNameSpots, SpecifierSpots, SpecifierFormSpots, MemberSpots, FieldSpots, FieldFormSpots, ItemSpots, DeclaratorSpots, DeclaratorFormSpots, ParameterSpots}
use Rattle.lk_spots.proofs.Lists.{each_numbered, optional_numbered}
use Rattle.lk_spots.proofs.Variants.{expr_form_at, declarator_form_at, specifier_at, field_at, item_at, parameter_at, type_name_at}

-- ---- a layer, with its parts to be numbered

abbrev expr_layer : ExprLayer → ExprFormLayer
expr_layer = map-ExprForm DeclaratorForm ExprForm MemberDeclarator Specifier Declarator Expr Item Member Parameter TypeName (Numbered DeclaratorForm) (Numbered ExprForm) (Numbered MemberDeclarator) (Numbered Specifier) (Numbered Declarator) (Numbered Expr) (Numbered Item) (Numbered Member) (Numbered Parameter) (Numbered TypeName)
    f.declarator_form f.expr_form f.member_declarator specifier declarator expr f.item f.member f.parameter f.type_name

abbrev declarator_layer : DeclaratorLayer → DeclaratorFormLayer
declarator_layer = map-DeclaratorForm DeclaratorForm ExprForm MemberDeclarator Specifier Declarator Expr Item Member Parameter TypeName (Numbered DeclaratorForm) (Numbered ExprForm) (Numbered MemberDeclarator) (Numbered Specifier) (Numbered Declarator) (Numbered Expr) (Numbered Item) (Numbered Member) (Numbered Parameter) (Numbered TypeName)
    f.declarator_form f.expr_form f.member_declarator specifier declarator expr f.item f.member f.parameter f.type_name

abbrev specifier_layer : SpecifierLayer → numbers.SpecifierLayer
specifier_layer = map-Specifier DeclaratorForm ExprForm MemberDeclarator Specifier Declarator Expr Item Member Parameter TypeName (Numbered DeclaratorForm) (Numbered ExprForm) (Numbered MemberDeclarator) (Numbered Specifier) (Numbered Declarator) (Numbered Expr) (Numbered Item) (Numbered Member) (Numbered Parameter) (Numbered TypeName)
    f.declarator_form f.expr_form f.member_declarator specifier declarator expr f.item f.member f.parameter f.type_name

abbrev field_layer : FieldLayer → MemberDeclaratorLayer
field_layer = map-MemberDeclarator DeclaratorForm ExprForm MemberDeclarator Specifier Declarator Expr Item Member Parameter TypeName (Numbered DeclaratorForm) (Numbered ExprForm) (Numbered MemberDeclarator) (Numbered Specifier) (Numbered Declarator) (Numbered Expr) (Numbered Item) (Numbered Member) (Numbered Parameter) (Numbered TypeName)
    f.declarator_form f.expr_form f.member_declarator specifier declarator expr f.item f.member f.parameter f.type_name

expr_form_is : (one : ExprForm) (n : ℕ) → (f.expr_form one n).0 ≡ (in_expr (expr_layer (out-ExprForm one)) n).0
unfolding expr declarator specifier
expr_form_is one n = ap (λ number. (number n).0) (fold_out-ExprForm (Numbered DeclaratorForm) (Numbered ExprForm) (Numbered MemberDeclarator) (Numbered Specifier) (Numbered Declarator) (Numbered Expr) (Numbered Item) (Numbered Member) (Numbered Parameter) (Numbered TypeName)
    in_declarator in_expr of_member_declarator of_specifier of_declarator of_expr of_item of_member of_parameter of_type_name one)

declarator_form_is : (one : DeclaratorForm) (n : ℕ) → (f.declarator_form one n).0 ≡ (in_declarator (declarator_layer (out-DeclaratorForm one)) n).0
unfolding expr declarator specifier
declarator_form_is one n = ap (λ number. (number n).0) (fold_out-DeclaratorForm (Numbered DeclaratorForm) (Numbered ExprForm) (Numbered MemberDeclarator) (Numbered Specifier) (Numbered Declarator) (Numbered Expr) (Numbered Item) (Numbered Member) (Numbered Parameter) (Numbered TypeName)
    in_declarator in_expr of_member_declarator of_specifier of_declarator of_expr of_item of_member of_parameter of_type_name one)

specifier_is : (one : Specifier) (n : ℕ) → (specifier one n).0 ≡ (of_specifier (specifier_layer (out-Specifier one)) n).0
unfolding expr declarator specifier
specifier_is one n = ap (λ number. (number n).0) (fold_out-Specifier (Numbered DeclaratorForm) (Numbered ExprForm) (Numbered MemberDeclarator) (Numbered Specifier) (Numbered Declarator) (Numbered Expr) (Numbered Item) (Numbered Member) (Numbered Parameter) (Numbered TypeName)
    in_declarator in_expr of_member_declarator of_specifier of_declarator of_expr of_item of_member of_parameter of_type_name one)

field_is : (one : MemberDeclarator) (n : ℕ) → (f.member_declarator one n).0 ≡ (of_member_declarator (field_layer (out-MemberDeclarator one)) n).0
unfolding expr declarator specifier
field_is one n = ap (λ number. (number n).0) (fold_out-MemberDeclarator (Numbered DeclaratorForm) (Numbered ExprForm) (Numbered MemberDeclarator) (Numbered Specifier) (Numbered Declarator) (Numbered Expr) (Numbered Item) (Numbered Member) (Numbered Parameter) (Numbered TypeName)
    in_declarator in_expr of_member_declarator of_specifier of_declarator of_expr of_item of_member of_parameter of_type_name one)

abbrev item_layer : Item-F DeclaratorForm ExprForm MemberDeclarator Specifier Declarator Expr Item Member Parameter TypeName → Item-F (Numbered DeclaratorForm) (Numbered ExprForm) (Numbered MemberDeclarator) (Numbered Specifier) (Numbered Declarator) (Numbered Expr) (Numbered Item) (Numbered Member) (Numbered Parameter) (Numbered TypeName)
item_layer = map-Item DeclaratorForm ExprForm MemberDeclarator Specifier Declarator Expr Item Member Parameter TypeName (Numbered DeclaratorForm) (Numbered ExprForm) (Numbered MemberDeclarator) (Numbered Specifier) (Numbered Declarator) (Numbered Expr) (Numbered Item) (Numbered Member) (Numbered Parameter) (Numbered TypeName)
    f.declarator_form f.expr_form f.member_declarator specifier declarator expr f.item f.member f.parameter f.type_name

abbrev parameter_layer : Parameter-F DeclaratorForm ExprForm MemberDeclarator Specifier Declarator Expr Item Member Parameter TypeName → Parameter-F (Numbered DeclaratorForm) (Numbered ExprForm) (Numbered MemberDeclarator) (Numbered Specifier) (Numbered Declarator) (Numbered Expr) (Numbered Item) (Numbered Member) (Numbered Parameter) (Numbered TypeName)
parameter_layer = map-Parameter DeclaratorForm ExprForm MemberDeclarator Specifier Declarator Expr Item Member Parameter TypeName (Numbered DeclaratorForm) (Numbered ExprForm) (Numbered MemberDeclarator) (Numbered Specifier) (Numbered Declarator) (Numbered Expr) (Numbered Item) (Numbered Member) (Numbered Parameter) (Numbered TypeName)
    f.declarator_form f.expr_form f.member_declarator specifier declarator expr f.item f.member f.parameter f.type_name

abbrev type_name_layer : TypeName-F DeclaratorForm ExprForm MemberDeclarator Specifier Declarator Expr Item Member Parameter TypeName → TypeName-F (Numbered DeclaratorForm) (Numbered ExprForm) (Numbered MemberDeclarator) (Numbered Specifier) (Numbered Declarator) (Numbered Expr) (Numbered Item) (Numbered Member) (Numbered Parameter) (Numbered TypeName)
type_name_layer = map-TypeName DeclaratorForm ExprForm MemberDeclarator Specifier Declarator Expr Item Member Parameter TypeName (Numbered DeclaratorForm) (Numbered ExprForm) (Numbered MemberDeclarator) (Numbered Specifier) (Numbered Declarator) (Numbered Expr) (Numbered Item) (Numbered Member) (Numbered Parameter) (Numbered TypeName)
    f.declarator_form f.expr_form f.member_declarator specifier declarator expr f.item f.member f.parameter f.type_name

-- ---- parts that may be missing

star_layer : (qualifiers : List Qualifier) (inner : Option Declarator) → declarator_layer (DeclaratorForm-F.Star qualifiers inner) ≡ DeclaratorForm-F.Star qualifiers (option_map declarator inner)
star_layer qualifiers None = refl
star_layer qualifiers (Some inner) = refl

array_layer : (inner : Option Declarator) (size : Option Expr) → declarator_layer (DeclaratorForm-F.ArrayOf inner size) ≡ DeclaratorForm-F.ArrayOf (option_map declarator inner) (option_map expr size)
array_layer None None = refl
array_layer None (Some size) = refl
array_layer (Some inner) None = refl
array_layer (Some inner) (Some size) = refl

function_layer : (inner : Option Declarator) (parameters : List Parameter) (dots : Bool)
    → declarator_layer (DeclaratorForm-F.FunctionOf inner parameters dots) ≡ DeclaratorForm-F.FunctionOf (option_map declarator inner) (map f.parameter parameters) dots
function_layer None parameters dots = refl
function_layer (Some inner) parameters dots = refl

item_part : (spot : Spot) (n : ℕ) (name : List ℕ) (value : Option Expr) → (item_layer (record { spot = spot; ordinal = n; name = name; value = value })).value ≡ option_map expr value
item_part spot n name None = refl
item_part spot n name (Some value) = refl

parameter_part : (spot : Spot) (n : ℕ) (specifiers : List Specifier) (inner : Option Declarator)
    → (parameter_layer (record { spot = spot; ordinal = n; specifiers = specifiers; declarator = inner })).declarator ≡ option_map declarator inner
parameter_part spot n specifiers None = refl
parameter_part spot n specifiers (Some inner) = refl

type_name_part : (spot : Spot) (n : ℕ) (specifiers : List Specifier) (inner : Option Declarator)
    → (type_name_layer (record { spot = spot; ordinal = n; specifiers = specifiers; declarator = inner })).declarator ≡ option_map declarator inner
type_name_part spot n specifiers None = refl
type_name_part spot n specifiers (Some inner) = refl

-- ---- a node

expr_is : (one : Expr) (n : ℕ) → (expr one n).0 ≡ record { spot = one.spot; ordinal = n; form = (f.expr_form one.form (n + 1)).0 }
unfolding expr declarator specifier
expr_is one n = ap (λ number. (number n).0) (fold_out-Expr (Numbered DeclaratorForm) (Numbered ExprForm) (Numbered MemberDeclarator) (Numbered Specifier) (Numbered Declarator) (Numbered Expr) (Numbered Item) (Numbered Member) (Numbered Parameter) (Numbered TypeName)
    in_declarator in_expr of_member_declarator of_specifier of_declarator of_expr of_item of_member of_parameter of_type_name one)

declarator_is : (one : Declarator) (n : ℕ) → (declarator one n).0 ≡ record { spot = one.spot; ordinal = n; form = (f.declarator_form one.form (n + 1)).0 }
unfolding expr declarator specifier
declarator_is one n = ap (λ number. (number n).0) (fold_out-Declarator (Numbered DeclaratorForm) (Numbered ExprForm) (Numbered MemberDeclarator) (Numbered Specifier) (Numbered Declarator) (Numbered Expr) (Numbered Item) (Numbered Member) (Numbered Parameter) (Numbered TypeName)
    in_declarator in_expr of_member_declarator of_specifier of_declarator of_expr of_item of_member of_parameter of_type_name one)

item_is : (one : Item) (n : ℕ)
    → (f.item one n).0 ≡ roll-Item (record { spot = (out-Item one).spot; ordinal = n; name = (out-Item one).name; value = (optional (option_map expr (out-Item one).value) (n + 1)).0 })
unfolding expr declarator specifier
item_is one n = ap (λ number. (number n).0) (fold_out-Item (Numbered DeclaratorForm) (Numbered ExprForm) (Numbered MemberDeclarator) (Numbered Specifier) (Numbered Declarator) (Numbered Expr) (Numbered Item) (Numbered Member) (Numbered Parameter) (Numbered TypeName)
    in_declarator in_expr of_member_declarator of_specifier of_declarator of_expr of_item of_member of_parameter of_type_name one)
    ∙ ap (λ value. roll-Item (record { spot = (out-Item one).spot; ordinal = n; name = (out-Item one).name; value = (optional value (n + 1)).0 })) (item_part (out-Item one).spot (out-Item one).ordinal (out-Item one).name (out-Item one).value)

member_is : (one : Member) (n : ℕ)
    → (f.member one n).0 ≡ record { spot = one.spot; ordinal = n; specifiers = (list (map specifier one.specifiers) (n + 1)).0; declarators = (list (map f.member_declarator one.declarators) (list (map specifier one.specifiers) (n + 1)).1).0 }
unfolding expr declarator specifier
member_is one n = ap (λ number. (number n).0) (fold_out-Member (Numbered DeclaratorForm) (Numbered ExprForm) (Numbered MemberDeclarator) (Numbered Specifier) (Numbered Declarator) (Numbered Expr) (Numbered Item) (Numbered Member) (Numbered Parameter) (Numbered TypeName)
    in_declarator in_expr of_member_declarator of_specifier of_declarator of_expr of_item of_member of_parameter of_type_name one)

parameter_is : (one : Parameter) (n : ℕ)
    → (f.parameter one n).0 ≡ roll-Parameter (record { spot = (out-Parameter one).spot; ordinal = n; specifiers = (list (map specifier (out-Parameter one).specifiers) (n + 1)).0; declarator = (optional (option_map declarator (out-Parameter one).declarator) (list (map specifier (out-Parameter one).specifiers) (n + 1)).1).0 })
unfolding expr declarator specifier
parameter_is one n = ap (λ number. (number n).0) (fold_out-Parameter (Numbered DeclaratorForm) (Numbered ExprForm) (Numbered MemberDeclarator) (Numbered Specifier) (Numbered Declarator) (Numbered Expr) (Numbered Item) (Numbered Member) (Numbered Parameter) (Numbered TypeName)
    in_declarator in_expr of_member_declarator of_specifier of_declarator of_expr of_item of_member of_parameter of_type_name one)
    ∙ ap (λ inner. roll-Parameter (record { spot = (out-Parameter one).spot; ordinal = n; specifiers = (list (map specifier (out-Parameter one).specifiers) (n + 1)).0; declarator = (optional inner (list (map specifier (out-Parameter one).specifiers) (n + 1)).1).0 })) (parameter_part (out-Parameter one).spot (out-Parameter one).ordinal (out-Parameter one).specifiers (out-Parameter one).declarator)

type_name_is : (one : TypeName) (n : ℕ)
    → (f.type_name one n).0 ≡ roll-TypeName (record { spot = (out-TypeName one).spot; ordinal = n; specifiers = (list (map specifier (out-TypeName one).specifiers) (n + 1)).0; declarator = (optional (option_map declarator (out-TypeName one).declarator) (list (map specifier (out-TypeName one).specifiers) (n + 1)).1).0 })
unfolding expr declarator specifier
type_name_is one n = ap (λ number. (number n).0) (fold_out-TypeName (Numbered DeclaratorForm) (Numbered ExprForm) (Numbered MemberDeclarator) (Numbered Specifier) (Numbered Declarator) (Numbered Expr) (Numbered Item) (Numbered Member) (Numbered Parameter) (Numbered TypeName)
    in_declarator in_expr of_member_declarator of_specifier of_declarator of_expr of_item of_member of_parameter of_type_name one)
    ∙ ap (λ inner. roll-TypeName (record { spot = (out-TypeName one).spot; ordinal = n; specifiers = (list (map specifier (out-TypeName one).specifiers) (n + 1)).0; declarator = (optional inner (list (map specifier (out-TypeName one).specifiers) (n + 1)).1).0 })) (type_name_part (out-TypeName one).spot (out-TypeName one).ordinal (out-TypeName one).specifiers (out-TypeName one).declarator)

module _ (P : Spot → Type 0) where
  mutual
    pub number-expr : {one : Expr} → ExprSpots P one → (n : ℕ) → ExprSpots P (expr one n).0
    number-expr (s.expr {e = one} here form) n =
        subst (ExprSpots P) (sym (expr_is one n)) (s.expr here (subst (λ form. ExprFormSpots P (out-ExprForm form)) (sym (expr_form_is one.form (n + 1))) (number-expr_form form (n + 1))))

    number-expr_form : {x : ExprLayer} → ExprFormSpots P x → (n : ℕ) → ExprFormSpots P (out-ExprForm (in_expr (expr_layer x) n).0)
    number-expr_form (s.comma left right) n = expr_form_at P _ (e.rolls-Comma _ _) (s.comma (number-expr left _) (number-expr right _))
    number-expr_form (s.assign left right) n = expr_form_at P _ (e.rolls-Assign _ _ _) (s.assign (number-expr left _) (number-expr right _))
    number-expr_form (s.choice condition taken other) n = expr_form_at P _ (e.rolls-Choice _ _ _) (s.choice (number-expr condition _) (number-expr taken _) (number-expr other _))
    number-expr_form (s.binary left right) n = expr_form_at P _ (e.rolls-Binary _ _ _) (s.binary (number-expr left _) (number-expr right _))
    number-expr_form (s.cast name operand) n = expr_form_at P _ (e.rolls-Cast _ _) (s.cast (number-type_name name _) (number-expr operand _))
    number-expr_form (s.pre operand) n = expr_form_at P _ (e.rolls-Pre _ _) (s.pre (number-expr operand _))
    number-expr_form (s.prefix operand) n = expr_form_at P _ (e.rolls-Prefix _ _) (s.prefix (number-expr operand _))
    number-expr_form (s.sizeof_expr operand) n = expr_form_at P _ (e.rolls-SizeofExpr _) (s.sizeof_expr (number-expr operand _))
    number-expr_form (s.sizeof_type name) n = expr_form_at P _ (e.rolls-SizeofType _) (s.sizeof_type (number-type_name name _))
    number-expr_form (s.index array inner) n = expr_form_at P _ (e.rolls-Index _ _) (s.index (number-expr array _) (number-expr inner _))
    number-expr_form (s.call function arguments) n = expr_form_at P _ (e.rolls-Call _ _) (s.call (number-expr function _) (each_numbered (ExprSpots P) expr _ (λ a is. number-expr (arguments a is)) _))
    number-expr_form (s.member object) n = expr_form_at P _ (e.rolls-Member _ _) (s.member (number-expr object _))
    number-expr_form (s.arrow pointer) n = expr_form_at P _ (e.rolls-Arrow _ _) (s.arrow (number-expr pointer _))
    number-expr_form (s.post operand) n = expr_form_at P _ (e.rolls-Post _ _) (s.post (number-expr operand _))
    number-expr_form s.word n = expr_form_at P _ (e.rolls-Word _) s.word
    number-expr_form s.number n = expr_form_at P _ (e.rolls-Number _ _) s.number
    number-expr_form s.char n = expr_form_at P _ (e.rolls-Char _) s.char
    number-expr_form s.text n = expr_form_at P _ (e.rolls-Text _) s.text
    number-expr_form (s.paren inner) n = expr_form_at P _ (e.rolls-Paren _) (s.paren (number-expr inner _))

    number-type_name : {one : TypeName} → TypeNameSpots P one → (n : ℕ) → TypeNameSpots P (f.type_name one n).0
    number-type_name (s.type_name {n = one} here specifiers inner) n =
        subst (TypeNameSpots P) (sym (type_name_is one n)) (type_name_at P _ _ _ _ here
        (each_numbered (SpecifierSpots P) specifier _ (λ a is. number-specifier (specifiers a is)) (n + 1))
        (optional_numbered (DeclaratorSpots P) declarator _ (λ a is. number-declarator (inner a is)) _))

    pub number-specifier : {one : Specifier} → SpecifierSpots P one → (n : ℕ) → SpecifierSpots P (specifier one n).0
    number-specifier (s.specifier {s = one} form) n = subst (SpecifierSpots P) (sym (specifier_is one n)) (number-specifier_form form n)

    number-specifier_form : {x : SpecifierLayer} → SpecifierFormSpots P x → (n : ℕ) → SpecifierSpots P (of_specifier (specifier_layer x) n).0
    number-specifier_form s.storage n = specifier_at P _ (v.rolls-Storage _) s.storage
    number-specifier_form s.inline n = specifier_at P _ v.rolls-Inline s.inline
    number-specifier_form s.qualifier n = specifier_at P _ (v.rolls-Qualifier _) s.qualifier
    number-specifier_form s.type n = specifier_at P _ (v.rolls-Type _) s.type
    number-specifier_form (s.struct members) n = specifier_at P _ (v.rolls-Struct _ _) (s.struct (each_numbered (MemberSpots P) f.member _ (λ a is. number-member (members a is)) _))
    number-specifier_form s.struct_tag n = specifier_at P _ (v.rolls-StructTag _) s.struct_tag
    number-specifier_form (s.enum items) n = specifier_at P _ (v.rolls-Enum _ _) (s.enum (each_numbered (ItemSpots P) f.item _ (λ a is. number-item (items a is)) _))
    number-specifier_form s.enum_tag n = specifier_at P _ (v.rolls-EnumTag _) s.enum_tag
    number-specifier_form s.typedef n = specifier_at P _ (v.rolls-Typedef _) s.typedef

    number-member : {one : Member} → MemberSpots P one → (n : ℕ) → MemberSpots P (f.member one n).0
    number-member (s.member_one {m = one} here specifiers fields) n =
        subst (MemberSpots P) (sym (member_is one n)) (s.member_one here
        (each_numbered (SpecifierSpots P) specifier _ (λ a is. number-specifier (specifiers a is)) (n + 1))
        (each_numbered (FieldSpots P) f.member_declarator _ (λ a is. number-field (fields a is)) _))

    number-field : {one : MemberDeclarator} → FieldSpots P one → (n : ℕ) → FieldSpots P (f.member_declarator one n).0
    number-field (s.field {d = one} form) n = subst (FieldSpots P) (sym (field_is one n)) (number-field_form form n)

    number-field_form : {x : FieldLayer} → FieldFormSpots P x → (n : ℕ) → FieldSpots P (of_member_declarator (field_layer x) n).0
    number-field_form (s.plain inner) n = field_at P _ (m.rolls-Plain _) (s.plain (number-declarator inner _))
    number-field_form (s.width inner bits) n = field_at P _ (m.rolls-Field _ _) (s.width (number-declarator inner _) (number-expr bits _))
    number-field_form (s.unnamed bits) n = field_at P _ (m.rolls-Unnamed _) (s.unnamed (number-expr bits _))

    number-item : {one : Item} → ItemSpots P one → (n : ℕ) → ItemSpots P (f.item one n).0
    number-item (s.item {i = one} here value) n =
        subst (ItemSpots P) (sym (item_is one n)) (item_at P _ _ _ _ here (optional_numbered (ExprSpots P) expr _ (λ a is. number-expr (value a is)) (n + 1)))

    pub number-declarator : {one : Declarator} → DeclaratorSpots P one → (n : ℕ) → DeclaratorSpots P (declarator one n).0
    number-declarator (s.declarator {d = one} here form) n =
        subst (DeclaratorSpots P) (sym (declarator_is one n)) (s.declarator here
        (subst (λ form. DeclaratorFormSpots P (out-DeclaratorForm form)) (sym (declarator_form_is one.form (n + 1))) (number-declarator_form form (n + 1))))

    number-declarator_form : {x : DeclaratorLayer} → DeclaratorFormSpots P x → (n : ℕ) → DeclaratorFormSpots P (out-DeclaratorForm (in_declarator (declarator_layer x) n).0)
    number-declarator_form (s.star {qualifiers = qualifiers} {inner = part} inner) n =
        subst (λ x. DeclaratorFormSpots P (out-DeclaratorForm (in_declarator x n).0)) (sym (star_layer qualifiers part)) (declarator_form_at P _ (d.rolls-Star _ _) (s.star (optional_numbered (DeclaratorSpots P) declarator _ (λ a is. number-declarator (inner a is)) _)))
    number-declarator_form s.named n = declarator_form_at P _ (d.rolls-Named _) s.named
    number-declarator_form (s.group inner) n = declarator_form_at P _ (d.rolls-Group _) (s.group (number-declarator inner _))
    number-declarator_form (s.array {inner = part} {size = bound} inner size) n =
        subst (λ x. DeclaratorFormSpots P (out-DeclaratorForm (in_declarator x n).0)) (sym (array_layer part bound)) (declarator_form_at P _ (d.rolls-ArrayOf _ _) (s.array (optional_numbered (DeclaratorSpots P) declarator _ (λ a is. number-declarator (inner a is)) _)
        (optional_numbered (ExprSpots P) expr _ (λ a is. number-expr (size a is)) _)))
    number-declarator_form (s.function {inner = part} {parameters = list_} {dots = dots} inner parameters) n =
        subst (λ x. DeclaratorFormSpots P (out-DeclaratorForm (in_declarator x n).0)) (sym (function_layer part list_ dots)) (declarator_form_at P _ (d.rolls-FunctionOf _ _ _) (s.function (optional_numbered (DeclaratorSpots P) declarator _ (λ a is. number-declarator (inner a is)) _)
        (each_numbered (ParameterSpots P) f.parameter _ (λ a is. number-parameter (parameters a is)) _)))

    number-parameter : {one : Parameter} → ParameterSpots P one → (n : ℕ) → ParameterSpots P (f.parameter one n).0
    number-parameter (s.parameter {p = one} here specifiers inner) n =
        subst (ParameterSpots P) (sym (parameter_is one n)) (parameter_at P _ _ _ _ here
        (each_numbered (SpecifierSpots P) specifier _ (λ a is. number-specifier (specifiers a is)) (n + 1))
        (optional_numbered (DeclaratorSpots P) declarator _ (λ a is. number-declarator (inner a is)) _))
