-- How the parts of expressions, declarators and specifiers are numbered, and the layers that the folds over them are made of.
use Rattle.std.proofs.Common.{◌≡◌}
use Rattle.lk_tree.specs.declared.expression.DeclaratorForm.TheOpen.{DeclaratorForm-F, ExprForm-F, MemberDeclarator-F, Specifier-F, Declarator-F, Expr-F, Item-F, Member-F, Parameter-F, TypeName-F}
use Rattle.lk_tree.specs.declared.expression.DeclaratorForm.TheFolds.{fold-DeclaratorForm, fold-ExprForm, fold-MemberDeclarator, fold-Item, fold-Member, fold-Parameter, fold-TypeName, fold-roll-DeclaratorForm, fold-roll-ExprForm, fold-roll-MemberDeclarator, fold-roll-Specifier, fold-roll-Declarator, fold-roll-Expr, fold-roll-Item, fold-roll-Member, fold-roll-Parameter, fold-roll-TypeName, map-DeclaratorForm, map-ExprForm, map-MemberDeclarator, map-Specifier, map-Declarator, map-Expr, map-Item, map-Member, map-Parameter, map-TypeName}
use Rattle.lk_tree.specs.declared.expression.DeclaratorForm.{DeclaratorForm, roll-DeclaratorForm}
use Rattle.lk_tree.specs.declared.expression.ExprForm.{ExprForm, roll-ExprForm}
use Rattle.lk_tree.specs.declared.expression.MemberDeclarator.{MemberDeclarator, roll-MemberDeclarator}
use Rattle.lk_tree.specs.declared.expression.Specifier.{Specifier, roll-Specifier}
use Rattle.lk_tree.specs.declared.expression.Declarator.{Declarator, roll-Declarator}
use Rattle.lk_tree.specs.declared.expression.Expr.{Expr, roll-Expr}
use Rattle.lk_tree.specs.declared.expression.Item.{Item, roll-Item}
use Rattle.lk_tree.specs.declared.expression.Member.{Member, roll-Member}
use Rattle.lk_tree.specs.declared.expression.Parameter.{Parameter, roll-Parameter}
use Rattle.lk_tree.specs.declared.expression.TypeName.{TypeName, roll-TypeName}
use Rattle.lk_tree.specs.Numbers.{Numbered, expr, declarator, specifier, in_declarator, in_expr, of_member_declarator, of_specifier, of_declarator, of_expr, of_item, of_member, of_parameter, of_type_name, DeclaratorFormLayer, ExprFormLayer, MemberDeclaratorLayer, SpecifierLayer, DeclaratorLayer, ExprLayer, ItemLayer, MemberLayer, ParameterLayer, TypeNameLayer}

-- ---- the parts by their folds

abbrev pub declarator_form : DeclaratorForm → Numbered DeclaratorForm
declarator_form = fold-DeclaratorForm (Numbered DeclaratorForm) (Numbered ExprForm) (Numbered MemberDeclarator) (Numbered Specifier) (Numbered Declarator) (Numbered Expr) (Numbered Item) (Numbered Member) (Numbered Parameter) (Numbered TypeName) in_declarator in_expr of_member_declarator of_specifier of_declarator of_expr of_item of_member of_parameter of_type_name

abbrev pub expr_form : ExprForm → Numbered ExprForm
expr_form = fold-ExprForm (Numbered DeclaratorForm) (Numbered ExprForm) (Numbered MemberDeclarator) (Numbered Specifier) (Numbered Declarator) (Numbered Expr) (Numbered Item) (Numbered Member) (Numbered Parameter) (Numbered TypeName) in_declarator in_expr of_member_declarator of_specifier of_declarator of_expr of_item of_member of_parameter of_type_name

abbrev pub member_declarator : MemberDeclarator → Numbered MemberDeclarator
member_declarator = fold-MemberDeclarator (Numbered DeclaratorForm) (Numbered ExprForm) (Numbered MemberDeclarator) (Numbered Specifier) (Numbered Declarator) (Numbered Expr) (Numbered Item) (Numbered Member) (Numbered Parameter) (Numbered TypeName) in_declarator in_expr of_member_declarator of_specifier of_declarator of_expr of_item of_member of_parameter of_type_name

abbrev pub item : Item → Numbered Item
item = fold-Item (Numbered DeclaratorForm) (Numbered ExprForm) (Numbered MemberDeclarator) (Numbered Specifier) (Numbered Declarator) (Numbered Expr) (Numbered Item) (Numbered Member) (Numbered Parameter) (Numbered TypeName) in_declarator in_expr of_member_declarator of_specifier of_declarator of_expr of_item of_member of_parameter of_type_name

abbrev pub member : Member → Numbered Member
member = fold-Member (Numbered DeclaratorForm) (Numbered ExprForm) (Numbered MemberDeclarator) (Numbered Specifier) (Numbered Declarator) (Numbered Expr) (Numbered Item) (Numbered Member) (Numbered Parameter) (Numbered TypeName) in_declarator in_expr of_member_declarator of_specifier of_declarator of_expr of_item of_member of_parameter of_type_name

abbrev pub parameter : Parameter → Numbered Parameter
parameter = fold-Parameter (Numbered DeclaratorForm) (Numbered ExprForm) (Numbered MemberDeclarator) (Numbered Specifier) (Numbered Declarator) (Numbered Expr) (Numbered Item) (Numbered Member) (Numbered Parameter) (Numbered TypeName) in_declarator in_expr of_member_declarator of_specifier of_declarator of_expr of_item of_member of_parameter of_type_name

abbrev pub type_name : TypeName → Numbered TypeName
type_name = fold-TypeName (Numbered DeclaratorForm) (Numbered ExprForm) (Numbered MemberDeclarator) (Numbered Specifier) (Numbered Declarator) (Numbered Expr) (Numbered Item) (Numbered Member) (Numbered Parameter) (Numbered TypeName) in_declarator in_expr of_member_declarator of_specifier of_declarator of_expr of_item of_member of_parameter of_type_name

-- ---- a layer, with its parts to be numbered

abbrev pub declarator_form_layer : DeclaratorForm-F DeclaratorForm ExprForm MemberDeclarator Specifier Declarator Expr Item Member Parameter TypeName → DeclaratorFormLayer
declarator_form_layer = map-DeclaratorForm DeclaratorForm ExprForm MemberDeclarator Specifier Declarator Expr Item Member Parameter TypeName (Numbered DeclaratorForm) (Numbered ExprForm) (Numbered MemberDeclarator) (Numbered Specifier) (Numbered Declarator) (Numbered Expr) (Numbered Item) (Numbered Member) (Numbered Parameter) (Numbered TypeName) declarator_form expr_form member_declarator specifier declarator expr item member parameter type_name

abbrev pub expr_form_layer : ExprForm-F DeclaratorForm ExprForm MemberDeclarator Specifier Declarator Expr Item Member Parameter TypeName → ExprFormLayer
expr_form_layer = map-ExprForm DeclaratorForm ExprForm MemberDeclarator Specifier Declarator Expr Item Member Parameter TypeName (Numbered DeclaratorForm) (Numbered ExprForm) (Numbered MemberDeclarator) (Numbered Specifier) (Numbered Declarator) (Numbered Expr) (Numbered Item) (Numbered Member) (Numbered Parameter) (Numbered TypeName) declarator_form expr_form member_declarator specifier declarator expr item member parameter type_name

abbrev pub field_layer : MemberDeclarator-F DeclaratorForm ExprForm MemberDeclarator Specifier Declarator Expr Item Member Parameter TypeName → MemberDeclaratorLayer
field_layer = map-MemberDeclarator DeclaratorForm ExprForm MemberDeclarator Specifier Declarator Expr Item Member Parameter TypeName (Numbered DeclaratorForm) (Numbered ExprForm) (Numbered MemberDeclarator) (Numbered Specifier) (Numbered Declarator) (Numbered Expr) (Numbered Item) (Numbered Member) (Numbered Parameter) (Numbered TypeName) declarator_form expr_form member_declarator specifier declarator expr item member parameter type_name

abbrev pub specifier_layer : Specifier-F DeclaratorForm ExprForm MemberDeclarator Specifier Declarator Expr Item Member Parameter TypeName → SpecifierLayer
specifier_layer = map-Specifier DeclaratorForm ExprForm MemberDeclarator Specifier Declarator Expr Item Member Parameter TypeName (Numbered DeclaratorForm) (Numbered ExprForm) (Numbered MemberDeclarator) (Numbered Specifier) (Numbered Declarator) (Numbered Expr) (Numbered Item) (Numbered Member) (Numbered Parameter) (Numbered TypeName) declarator_form expr_form member_declarator specifier declarator expr item member parameter type_name

abbrev pub declarator_layer : Declarator-F DeclaratorForm ExprForm MemberDeclarator Specifier Declarator Expr Item Member Parameter TypeName → DeclaratorLayer
declarator_layer = map-Declarator DeclaratorForm ExprForm MemberDeclarator Specifier Declarator Expr Item Member Parameter TypeName (Numbered DeclaratorForm) (Numbered ExprForm) (Numbered MemberDeclarator) (Numbered Specifier) (Numbered Declarator) (Numbered Expr) (Numbered Item) (Numbered Member) (Numbered Parameter) (Numbered TypeName) declarator_form expr_form member_declarator specifier declarator expr item member parameter type_name

abbrev pub expr_layer : Expr-F DeclaratorForm ExprForm MemberDeclarator Specifier Declarator Expr Item Member Parameter TypeName → ExprLayer
expr_layer = map-Expr DeclaratorForm ExprForm MemberDeclarator Specifier Declarator Expr Item Member Parameter TypeName (Numbered DeclaratorForm) (Numbered ExprForm) (Numbered MemberDeclarator) (Numbered Specifier) (Numbered Declarator) (Numbered Expr) (Numbered Item) (Numbered Member) (Numbered Parameter) (Numbered TypeName) declarator_form expr_form member_declarator specifier declarator expr item member parameter type_name

abbrev pub item_layer : Item-F DeclaratorForm ExprForm MemberDeclarator Specifier Declarator Expr Item Member Parameter TypeName → ItemLayer
item_layer = map-Item DeclaratorForm ExprForm MemberDeclarator Specifier Declarator Expr Item Member Parameter TypeName (Numbered DeclaratorForm) (Numbered ExprForm) (Numbered MemberDeclarator) (Numbered Specifier) (Numbered Declarator) (Numbered Expr) (Numbered Item) (Numbered Member) (Numbered Parameter) (Numbered TypeName) declarator_form expr_form member_declarator specifier declarator expr item member parameter type_name

abbrev pub member_layer : Member-F DeclaratorForm ExprForm MemberDeclarator Specifier Declarator Expr Item Member Parameter TypeName → MemberLayer
member_layer = map-Member DeclaratorForm ExprForm MemberDeclarator Specifier Declarator Expr Item Member Parameter TypeName (Numbered DeclaratorForm) (Numbered ExprForm) (Numbered MemberDeclarator) (Numbered Specifier) (Numbered Declarator) (Numbered Expr) (Numbered Item) (Numbered Member) (Numbered Parameter) (Numbered TypeName) declarator_form expr_form member_declarator specifier declarator expr item member parameter type_name

abbrev pub parameter_layer : Parameter-F DeclaratorForm ExprForm MemberDeclarator Specifier Declarator Expr Item Member Parameter TypeName → ParameterLayer
parameter_layer = map-Parameter DeclaratorForm ExprForm MemberDeclarator Specifier Declarator Expr Item Member Parameter TypeName (Numbered DeclaratorForm) (Numbered ExprForm) (Numbered MemberDeclarator) (Numbered Specifier) (Numbered Declarator) (Numbered Expr) (Numbered Item) (Numbered Member) (Numbered Parameter) (Numbered TypeName) declarator_form expr_form member_declarator specifier declarator expr item member parameter type_name

abbrev pub type_name_layer : TypeName-F DeclaratorForm ExprForm MemberDeclarator Specifier Declarator Expr Item Member Parameter TypeName → TypeNameLayer
type_name_layer = map-TypeName DeclaratorForm ExprForm MemberDeclarator Specifier Declarator Expr Item Member Parameter TypeName (Numbered DeclaratorForm) (Numbered ExprForm) (Numbered MemberDeclarator) (Numbered Specifier) (Numbered Declarator) (Numbered Expr) (Numbered Item) (Numbered Member) (Numbered Parameter) (Numbered TypeName) declarator_form expr_form member_declarator specifier declarator expr item member parameter type_name

-- ---- the numbers of what a layer makes are by those of its parts

pub declarator_form_rolled : (x : DeclaratorForm-F DeclaratorForm ExprForm MemberDeclarator Specifier Declarator Expr Item Member Parameter TypeName) → declarator_form (roll-DeclaratorForm x) ≡ in_declarator (declarator_form_layer x)
unfolding expr declarator specifier
declarator_form_rolled x = fold-roll-DeclaratorForm (Numbered DeclaratorForm) (Numbered ExprForm) (Numbered MemberDeclarator) (Numbered Specifier) (Numbered Declarator) (Numbered Expr) (Numbered Item) (Numbered Member) (Numbered Parameter) (Numbered TypeName) in_declarator in_expr of_member_declarator of_specifier of_declarator of_expr of_item of_member of_parameter of_type_name x

pub expr_form_rolled : (x : ExprForm-F DeclaratorForm ExprForm MemberDeclarator Specifier Declarator Expr Item Member Parameter TypeName) → expr_form (roll-ExprForm x) ≡ in_expr (expr_form_layer x)
unfolding expr declarator specifier
expr_form_rolled x = fold-roll-ExprForm (Numbered DeclaratorForm) (Numbered ExprForm) (Numbered MemberDeclarator) (Numbered Specifier) (Numbered Declarator) (Numbered Expr) (Numbered Item) (Numbered Member) (Numbered Parameter) (Numbered TypeName) in_declarator in_expr of_member_declarator of_specifier of_declarator of_expr of_item of_member of_parameter of_type_name x

pub field_rolled : (x : MemberDeclarator-F DeclaratorForm ExprForm MemberDeclarator Specifier Declarator Expr Item Member Parameter TypeName) → member_declarator (roll-MemberDeclarator x) ≡ of_member_declarator (field_layer x)
unfolding expr declarator specifier
field_rolled x = fold-roll-MemberDeclarator (Numbered DeclaratorForm) (Numbered ExprForm) (Numbered MemberDeclarator) (Numbered Specifier) (Numbered Declarator) (Numbered Expr) (Numbered Item) (Numbered Member) (Numbered Parameter) (Numbered TypeName) in_declarator in_expr of_member_declarator of_specifier of_declarator of_expr of_item of_member of_parameter of_type_name x

pub specifier_rolled : (x : Specifier-F DeclaratorForm ExprForm MemberDeclarator Specifier Declarator Expr Item Member Parameter TypeName) → specifier (roll-Specifier x) ≡ of_specifier (specifier_layer x)
unfolding expr declarator specifier
specifier_rolled x = fold-roll-Specifier (Numbered DeclaratorForm) (Numbered ExprForm) (Numbered MemberDeclarator) (Numbered Specifier) (Numbered Declarator) (Numbered Expr) (Numbered Item) (Numbered Member) (Numbered Parameter) (Numbered TypeName) in_declarator in_expr of_member_declarator of_specifier of_declarator of_expr of_item of_member of_parameter of_type_name x

pub declarator_rolled : (x : Declarator-F DeclaratorForm ExprForm MemberDeclarator Specifier Declarator Expr Item Member Parameter TypeName) → declarator (roll-Declarator x) ≡ of_declarator (declarator_layer x)
unfolding expr declarator specifier
declarator_rolled x = fold-roll-Declarator (Numbered DeclaratorForm) (Numbered ExprForm) (Numbered MemberDeclarator) (Numbered Specifier) (Numbered Declarator) (Numbered Expr) (Numbered Item) (Numbered Member) (Numbered Parameter) (Numbered TypeName) in_declarator in_expr of_member_declarator of_specifier of_declarator of_expr of_item of_member of_parameter of_type_name x

pub expr_rolled : (x : Expr-F DeclaratorForm ExprForm MemberDeclarator Specifier Declarator Expr Item Member Parameter TypeName) → expr (roll-Expr x) ≡ of_expr (expr_layer x)
unfolding expr declarator specifier
expr_rolled x = fold-roll-Expr (Numbered DeclaratorForm) (Numbered ExprForm) (Numbered MemberDeclarator) (Numbered Specifier) (Numbered Declarator) (Numbered Expr) (Numbered Item) (Numbered Member) (Numbered Parameter) (Numbered TypeName) in_declarator in_expr of_member_declarator of_specifier of_declarator of_expr of_item of_member of_parameter of_type_name x

pub item_rolled : (x : Item-F DeclaratorForm ExprForm MemberDeclarator Specifier Declarator Expr Item Member Parameter TypeName) → item (roll-Item x) ≡ of_item (item_layer x)
unfolding expr declarator specifier
item_rolled x = fold-roll-Item (Numbered DeclaratorForm) (Numbered ExprForm) (Numbered MemberDeclarator) (Numbered Specifier) (Numbered Declarator) (Numbered Expr) (Numbered Item) (Numbered Member) (Numbered Parameter) (Numbered TypeName) in_declarator in_expr of_member_declarator of_specifier of_declarator of_expr of_item of_member of_parameter of_type_name x

pub member_rolled : (x : Member-F DeclaratorForm ExprForm MemberDeclarator Specifier Declarator Expr Item Member Parameter TypeName) → member (roll-Member x) ≡ of_member (member_layer x)
unfolding expr declarator specifier
member_rolled x = fold-roll-Member (Numbered DeclaratorForm) (Numbered ExprForm) (Numbered MemberDeclarator) (Numbered Specifier) (Numbered Declarator) (Numbered Expr) (Numbered Item) (Numbered Member) (Numbered Parameter) (Numbered TypeName) in_declarator in_expr of_member_declarator of_specifier of_declarator of_expr of_item of_member of_parameter of_type_name x

pub parameter_rolled : (x : Parameter-F DeclaratorForm ExprForm MemberDeclarator Specifier Declarator Expr Item Member Parameter TypeName) → parameter (roll-Parameter x) ≡ of_parameter (parameter_layer x)
unfolding expr declarator specifier
parameter_rolled x = fold-roll-Parameter (Numbered DeclaratorForm) (Numbered ExprForm) (Numbered MemberDeclarator) (Numbered Specifier) (Numbered Declarator) (Numbered Expr) (Numbered Item) (Numbered Member) (Numbered Parameter) (Numbered TypeName) in_declarator in_expr of_member_declarator of_specifier of_declarator of_expr of_item of_member of_parameter of_type_name x

pub type_name_rolled : (x : TypeName-F DeclaratorForm ExprForm MemberDeclarator Specifier Declarator Expr Item Member Parameter TypeName) → type_name (roll-TypeName x) ≡ of_type_name (type_name_layer x)
unfolding expr declarator specifier
type_name_rolled x = fold-roll-TypeName (Numbered DeclaratorForm) (Numbered ExprForm) (Numbered MemberDeclarator) (Numbered Specifier) (Numbered Declarator) (Numbered Expr) (Numbered Item) (Numbered Member) (Numbered Parameter) (Numbered TypeName) in_declarator in_expr of_member_declarator of_specifier of_declarator of_expr of_item of_member of_parameter of_type_name x
