-- What is found of declarators, specifiers, members, enumerators, parameters and type names, one layer at a time.
use Rattle.std.proofs.Common.{◌≡◌, ◌∙◌, List, [], ◌∷◌, map, Option, Some, None, option_map, refl, sym, ap}
use Rattle.lk_tree.specs.declared.expression.DeclaratorForm.TheOpen.{DeclaratorForm-F, Declarator-F, ExprForm-F, Expr-F, Item-F, Member-F, MemberDeclarator-F, Parameter-F, Specifier-F, TypeName-F}
use Rattle.lk_tree.specs.declared.expression.DeclaratorForm.TheFolds.{fold-DeclaratorForm, fold-ExprForm, fold_out-Declarator, fold_out-DeclaratorForm, fold_out-Item, fold_out-Member, fold_out-MemberDeclarator, fold_out-Parameter, fold_out-Specifier, fold_out-TypeName, map-DeclaratorForm, map-Item, map-MemberDeclarator, map-Parameter, map-Specifier, map-TypeName}
use Rattle.lk_tree.specs.declared.expression.DeclaratorForm.{DeclaratorForm, out-DeclaratorForm}
use Rattle.lk_tree.specs.declared.expression.Declarator.{Declarator}
use Rattle.lk_tree.specs.declared.expression.Expr.{Expr}
use Rattle.lk_tree.specs.declared.expression.ExprForm.{ExprForm}
use Rattle.lk_tree.specs.declared.expression.Item.{Item, out-Item}
use Rattle.lk_tree.specs.declared.expression.Member.{Member}
use Rattle.lk_tree.specs.declared.expression.MemberDeclarator.{MemberDeclarator, out-MemberDeclarator}
use Rattle.lk_tree.specs.declared.expression.Parameter.{Parameter, out-Parameter}
use Rattle.lk_tree.specs.declared.expression.Specifier.{Specifier, out-Specifier}
use Rattle.lk_tree.specs.declared.expression.TypeName.{TypeName, out-TypeName}
use Rattle.lk_typed.specs.Expressions.{expression, declarator_layer, specifier_found, member_found, member_declarator_found, item_found, parameter_found, type_found}
use Rattle.lk_typed.specs.Layers.{DeclaratorLayer, ParameterTeller, MemberDeclaratorTeller, parameter_told, type_name_told}
use Rattle.lk_typed.specs.Telling.{ExprTeller, FormTeller, TypeNameTeller, in_declarator, of_member_declarator, of_specifier, of_declarator, of_item, of_member, of_parameter, of_type_name}
use Rattle.lk_typed.specs.Told.{SpecifierTeller, MemberTeller, ItemTeller}
use Rattle.lk_rules.specs.LayerLaws.{DeclaratorTree, MemberDeclaratorTree, SpecifierTree, declarator_parts_told, member_declarator_parts_told, specifier_parts_told}
use Rattle.lk_rules.specs.LayerLaws as laws
use Rattle.lk_rules.proofs.Found.{DeclaratorFormTeller, in_expr, of_expr}

-- the fold over forms of declarators and of expressions
unfoldable form_layer : DeclaratorForm → DeclaratorFormTeller
form_layer = fold-DeclaratorForm DeclaratorFormTeller FormTeller MemberDeclaratorTeller SpecifierTeller DeclaratorLayer ExprTeller ItemTeller MemberTeller ParameterTeller TypeNameTeller
    in_declarator in_expr of_member_declarator of_specifier of_declarator of_expr of_item of_member of_parameter of_type_name

unfoldable form_found : ExprForm → FormTeller
form_found = fold-ExprForm DeclaratorFormTeller FormTeller MemberDeclaratorTeller SpecifierTeller DeclaratorLayer ExprTeller ItemTeller MemberTeller ParameterTeller TypeNameTeller
    in_declarator in_expr of_member_declarator of_specifier of_declarator of_expr of_item of_member of_parameter of_type_name

-- what the fold makes of the parts of a layer
abbrev declarator_folded : DeclaratorForm-F DeclaratorForm ExprForm MemberDeclarator Specifier Declarator Expr Item Member Parameter TypeName → DeclaratorForm-F DeclaratorFormTeller FormTeller MemberDeclaratorTeller SpecifierTeller DeclaratorLayer ExprTeller ItemTeller MemberTeller ParameterTeller TypeNameTeller
declarator_folded = map-DeclaratorForm DeclaratorForm ExprForm MemberDeclarator Specifier Declarator Expr Item Member Parameter TypeName DeclaratorFormTeller FormTeller MemberDeclaratorTeller SpecifierTeller DeclaratorLayer ExprTeller ItemTeller MemberTeller ParameterTeller TypeNameTeller
    form_layer form_found member_declarator_found specifier_found declarator_layer expression item_found member_found parameter_found type_found

declarator_same : (form : DeclaratorTree) → in_declarator (declarator_folded form) ≡ in_declarator (declarator_parts_told form)
declarator_same (DeclaratorForm-F.Star qualifiers None) = refl
declarator_same (DeclaratorForm-F.Star qualifiers (Some inner)) = refl
declarator_same (DeclaratorForm-F.Named name) = refl
declarator_same (DeclaratorForm-F.Group inner) = refl
declarator_same (DeclaratorForm-F.ArrayOf None None) = refl
declarator_same (DeclaratorForm-F.ArrayOf None (Some size)) = refl
declarator_same (DeclaratorForm-F.ArrayOf (Some inner) None) = refl
declarator_same (DeclaratorForm-F.ArrayOf (Some inner) (Some size)) = refl
declarator_same (DeclaratorForm-F.FunctionOf None ps dots) = refl
declarator_same (DeclaratorForm-F.FunctionOf (Some inner) ps dots) = refl

pub declarators_follow_their_forms : laws.DeclaratorsFollowTheirForms
unfolding declarator_layer form_layer form_found member_declarator_found specifier_found expression item_found member_found parameter_found type_found
declarators_follow_their_forms d =
    fold_out-Declarator DeclaratorFormTeller FormTeller MemberDeclaratorTeller SpecifierTeller DeclaratorLayer ExprTeller ItemTeller MemberTeller ParameterTeller TypeNameTeller
    in_declarator in_expr of_member_declarator of_specifier of_declarator of_expr of_item of_member of_parameter of_type_name d ∙
    ap (λ f. f d.spot d.ordinal)
    (fold_out-DeclaratorForm DeclaratorFormTeller FormTeller MemberDeclaratorTeller SpecifierTeller DeclaratorLayer ExprTeller ItemTeller MemberTeller ParameterTeller TypeNameTeller
    in_declarator in_expr of_member_declarator of_specifier of_declarator of_expr of_item of_member of_parameter of_type_name d.form ∙
    declarator_same (out-DeclaratorForm d.form))

-- what the fold makes of the parts of a layer
abbrev specifier_folded : Specifier-F DeclaratorForm ExprForm MemberDeclarator Specifier Declarator Expr Item Member Parameter TypeName → Specifier-F DeclaratorFormTeller FormTeller MemberDeclaratorTeller SpecifierTeller DeclaratorLayer ExprTeller ItemTeller MemberTeller ParameterTeller TypeNameTeller
specifier_folded = map-Specifier DeclaratorForm ExprForm MemberDeclarator Specifier Declarator Expr Item Member Parameter TypeName DeclaratorFormTeller FormTeller MemberDeclaratorTeller SpecifierTeller DeclaratorLayer ExprTeller ItemTeller MemberTeller ParameterTeller TypeNameTeller
    form_layer form_found member_declarator_found specifier_found declarator_layer expression item_found member_found parameter_found type_found

specifier_same : (form : SpecifierTree) → of_specifier (specifier_folded form) ≡ of_specifier (specifier_parts_told form)
specifier_same (Specifier-F.Storage word) = refl
specifier_same Specifier-F.Inline = refl
specifier_same (Specifier-F.Qualifier word) = refl
specifier_same (Specifier-F.Type word) = refl
specifier_same (Specifier-F.Struct tag members) = refl
specifier_same (Specifier-F.StructTag tag) = refl
specifier_same (Specifier-F.Enum tag items) = refl
specifier_same (Specifier-F.EnumTag tag) = refl
specifier_same (Specifier-F.Typedef name) = refl

pub specifiers_follow_their_forms : laws.SpecifiersFollowTheirForms
unfolding declarator_layer form_layer form_found member_declarator_found specifier_found expression item_found member_found parameter_found type_found
specifiers_follow_their_forms s =
    fold_out-Specifier DeclaratorFormTeller FormTeller MemberDeclaratorTeller SpecifierTeller DeclaratorLayer ExprTeller ItemTeller MemberTeller ParameterTeller TypeNameTeller
    in_declarator in_expr of_member_declarator of_specifier of_declarator of_expr of_item of_member of_parameter of_type_name s ∙
    specifier_same (out-Specifier s)

-- what the fold makes of the parts of a layer
abbrev member_declarator_folded : MemberDeclarator-F DeclaratorForm ExprForm MemberDeclarator Specifier Declarator Expr Item Member Parameter TypeName → MemberDeclarator-F DeclaratorFormTeller FormTeller MemberDeclaratorTeller SpecifierTeller DeclaratorLayer ExprTeller ItemTeller MemberTeller ParameterTeller TypeNameTeller
member_declarator_folded = map-MemberDeclarator DeclaratorForm ExprForm MemberDeclarator Specifier Declarator Expr Item Member Parameter TypeName DeclaratorFormTeller FormTeller MemberDeclaratorTeller SpecifierTeller DeclaratorLayer ExprTeller ItemTeller MemberTeller ParameterTeller TypeNameTeller
    form_layer form_found member_declarator_found specifier_found declarator_layer expression item_found member_found parameter_found type_found

member_declarator_same : (form : MemberDeclaratorTree) → of_member_declarator (member_declarator_folded form) ≡ of_member_declarator (member_declarator_parts_told form)
member_declarator_same (MemberDeclarator-F.Plain inner) = refl
member_declarator_same (MemberDeclarator-F.Field inner width) = refl
member_declarator_same (MemberDeclarator-F.Unnamed width) = refl

pub member_declarators_follow_their_forms : laws.MemberDeclaratorsFollowTheirForms
unfolding declarator_layer form_layer form_found member_declarator_found specifier_found expression item_found member_found parameter_found type_found
member_declarators_follow_their_forms d =
    fold_out-MemberDeclarator DeclaratorFormTeller FormTeller MemberDeclaratorTeller SpecifierTeller DeclaratorLayer ExprTeller ItemTeller MemberTeller ParameterTeller TypeNameTeller
    in_declarator in_expr of_member_declarator of_specifier of_declarator of_expr of_item of_member of_parameter of_type_name d ∙
    member_declarator_same (out-MemberDeclarator d)

pub members_follow_their_parts : laws.MembersFollowTheirParts
unfolding member_declarator_found specifier_found member_found
members_follow_their_parts m =
    fold_out-Member DeclaratorFormTeller FormTeller MemberDeclaratorTeller SpecifierTeller DeclaratorLayer ExprTeller ItemTeller MemberTeller ParameterTeller TypeNameTeller
    in_declarator in_expr of_member_declarator of_specifier of_declarator of_expr of_item of_member of_parameter of_type_name m

-- what the fold makes of the parts of a layer
abbrev item_folded : Item-F DeclaratorForm ExprForm MemberDeclarator Specifier Declarator Expr Item Member Parameter TypeName → Item-F DeclaratorFormTeller FormTeller MemberDeclaratorTeller SpecifierTeller DeclaratorLayer ExprTeller ItemTeller MemberTeller ParameterTeller TypeNameTeller
item_folded = map-Item DeclaratorForm ExprForm MemberDeclarator Specifier Declarator Expr Item Member Parameter TypeName DeclaratorFormTeller FormTeller MemberDeclaratorTeller SpecifierTeller DeclaratorLayer ExprTeller ItemTeller MemberTeller ParameterTeller TypeNameTeller
    form_layer form_found member_declarator_found specifier_found declarator_layer expression item_found member_found parameter_found type_found

item_same : (form : Item-F DeclaratorForm ExprForm MemberDeclarator Specifier Declarator Expr Item Member Parameter TypeName) → of_item (item_folded form) ≡ of_item (record { spot = form.spot; ordinal = form.ordinal; name = form.name; value = option_map expression form.value })
item_same form = by_value form.value
  where
    by_value : (value : Option Expr) → of_item (item_folded (record form { value = value })) ≡ of_item (record { spot = form.spot; ordinal = form.ordinal; name = form.name; value = option_map expression value })
    by_value None = refl
    by_value (Some e) = refl

pub items_follow_their_parts : laws.ItemsFollowTheirParts
unfolding declarator_layer form_layer form_found member_declarator_found specifier_found expression item_found member_found parameter_found type_found
items_follow_their_parts i =
    fold_out-Item DeclaratorFormTeller FormTeller MemberDeclaratorTeller SpecifierTeller DeclaratorLayer ExprTeller ItemTeller MemberTeller ParameterTeller TypeNameTeller
    in_declarator in_expr of_member_declarator of_specifier of_declarator of_expr of_item of_member of_parameter of_type_name i ∙
    item_same (out-Item i)

-- what the fold makes of the parts of a layer
abbrev parameter_folded : Parameter-F DeclaratorForm ExprForm MemberDeclarator Specifier Declarator Expr Item Member Parameter TypeName → Parameter-F DeclaratorFormTeller FormTeller MemberDeclaratorTeller SpecifierTeller DeclaratorLayer ExprTeller ItemTeller MemberTeller ParameterTeller TypeNameTeller
parameter_folded = map-Parameter DeclaratorForm ExprForm MemberDeclarator Specifier Declarator Expr Item Member Parameter TypeName DeclaratorFormTeller FormTeller MemberDeclaratorTeller SpecifierTeller DeclaratorLayer ExprTeller ItemTeller MemberTeller ParameterTeller TypeNameTeller
    form_layer form_found member_declarator_found specifier_found declarator_layer expression item_found member_found parameter_found type_found

parameter_same : (form : Parameter-F DeclaratorForm ExprForm MemberDeclarator Specifier Declarator Expr Item Member Parameter TypeName) → of_parameter (parameter_folded form) ≡ parameter_told (map specifier_found form.specifiers) (option_map declarator_layer form.declarator)
parameter_same form = by_declarator form.declarator
  where
    by_declarator : (d : Option Declarator) → of_parameter (parameter_folded (record form { declarator = d })) ≡ parameter_told (map specifier_found form.specifiers) (option_map declarator_layer d)
    by_declarator None = refl
    by_declarator (Some d) = refl

pub parameters_follow_their_parts : laws.ParametersFollowTheirParts
unfolding declarator_layer form_layer form_found member_declarator_found specifier_found expression item_found member_found parameter_found type_found
parameters_follow_their_parts p =
    fold_out-Parameter DeclaratorFormTeller FormTeller MemberDeclaratorTeller SpecifierTeller DeclaratorLayer ExprTeller ItemTeller MemberTeller ParameterTeller TypeNameTeller
    in_declarator in_expr of_member_declarator of_specifier of_declarator of_expr of_item of_member of_parameter of_type_name p ∙
    parameter_same (out-Parameter p)

-- what the fold makes of the parts of a layer
abbrev type_name_folded : TypeName-F DeclaratorForm ExprForm MemberDeclarator Specifier Declarator Expr Item Member Parameter TypeName → TypeName-F DeclaratorFormTeller FormTeller MemberDeclaratorTeller SpecifierTeller DeclaratorLayer ExprTeller ItemTeller MemberTeller ParameterTeller TypeNameTeller
type_name_folded = map-TypeName DeclaratorForm ExprForm MemberDeclarator Specifier Declarator Expr Item Member Parameter TypeName DeclaratorFormTeller FormTeller MemberDeclaratorTeller SpecifierTeller DeclaratorLayer ExprTeller ItemTeller MemberTeller ParameterTeller TypeNameTeller
    form_layer form_found member_declarator_found specifier_found declarator_layer expression item_found member_found parameter_found type_found

type_name_same : (form : TypeName-F DeclaratorForm ExprForm MemberDeclarator Specifier Declarator Expr Item Member Parameter TypeName) → of_type_name (type_name_folded form) ≡ type_name_told (map specifier_found form.specifiers) (option_map declarator_layer form.declarator)
type_name_same form = by_declarator form.declarator
  where
    by_declarator : (d : Option Declarator) → of_type_name (type_name_folded (record form { declarator = d })) ≡ type_name_told (map specifier_found form.specifiers) (option_map declarator_layer d)
    by_declarator None = refl
    by_declarator (Some d) = refl

pub type_names_follow_their_parts : laws.TypeNamesFollowTheirParts
unfolding declarator_layer form_layer form_found member_declarator_found specifier_found expression item_found member_found parameter_found type_found
type_names_follow_their_parts t =
    fold_out-TypeName DeclaratorFormTeller FormTeller MemberDeclaratorTeller SpecifierTeller DeclaratorLayer ExprTeller ItemTeller MemberTeller ParameterTeller TypeNameTeller
    in_declarator in_expr of_member_declarator of_specifier of_declarator of_expr of_item of_member of_parameter of_type_name t ∙
    type_name_same (out-TypeName t)
