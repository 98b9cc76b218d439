-- What the fold over the tree finds of declarators, specifiers, members, enumerators, parameters
-- and type names, one layer at a time; and what an expression adds, whatever it stands as. Each law
-- is the contract of a function.
use Rattle.std.specs.Prelude.{◌≡◌, List, map, Option, Some, None, option_map}
use Rattle.lk_tree.specs.declared.expression.DeclaratorForm.TheOpen.{DeclaratorForm-F, MemberDeclarator-F, Specifier-F}
use Rattle.lk_tree.specs.declared.expression.DeclaratorForm.{DeclaratorForm, out-DeclaratorForm}
use Rattle.lk_tree.specs.declared.expression.Declarator.{Declarator}
use Rattle.lk_tree.specs.declared.expression.Expr.{Expr}
use Rattle.lk_tree.specs.declared.expression.ExprForm.{ExprForm}
use Rattle.lk_tree.specs.declared.expression.Item.{Item, out-Item}
use Rattle.lk_tree.specs.declared.expression.Member.{Member}
use Rattle.lk_tree.specs.declared.expression.MemberDeclarator.{MemberDeclarator, out-MemberDeclarator}
use Rattle.lk_tree.specs.declared.expression.Parameter.{Parameter, out-Parameter}
use Rattle.lk_tree.specs.declared.expression.Specifier.{Specifier, out-Specifier}
use Rattle.lk_tree.specs.declared.expression.TypeName.{TypeName, out-TypeName}
use Rattle.lk_typed.specs.Env.{Env, as_operand}
use Rattle.lk_typed.specs.Expressions.{expression, declarator_layer, specifier_found, member_found, member_declarator_found, item_found, parameter_found, type_found}
use Rattle.lk_typed.specs.Layers.{member_told, parameter_told, type_name_told}
use Rattle.lk_typed.specs.Telling.{DeclaratorOpen, MemberDeclaratorOpen, SpecifierOpen, in_declarator, of_member_declarator, of_specifier, of_item}

-- ---- layers of trees

abbrev pub DeclaratorTree : Type 0
DeclaratorTree =
    DeclaratorForm-F DeclaratorForm ExprForm MemberDeclarator Specifier Declarator Expr Item Member
    Parameter TypeName

abbrev pub MemberDeclaratorTree : Type 0
MemberDeclaratorTree =
    MemberDeclarator-F DeclaratorForm ExprForm MemberDeclarator Specifier Declarator Expr Item Member
    Parameter TypeName

abbrev pub SpecifierTree : Type 0
SpecifierTree =
    Specifier-F DeclaratorForm ExprForm MemberDeclarator Specifier Declarator Expr Item Member
    Parameter TypeName

-- ---- what the parts of a layer tell

abbrev pub declarator_parts_told : DeclaratorTree → DeclaratorOpen
declarator_parts_told (DeclaratorForm-F.Star qualifiers inner) =
    DeclaratorForm-F.Star qualifiers (option_map declarator_layer inner)
declarator_parts_told (DeclaratorForm-F.Named name) = DeclaratorForm-F.Named name
declarator_parts_told (DeclaratorForm-F.Group inner) = DeclaratorForm-F.Group (declarator_layer inner)
declarator_parts_told (DeclaratorForm-F.ArrayOf inner size) =
    DeclaratorForm-F.ArrayOf (option_map declarator_layer inner) (option_map expression size)
declarator_parts_told (DeclaratorForm-F.FunctionOf inner ps dots) =
    DeclaratorForm-F.FunctionOf (option_map declarator_layer inner) (map parameter_found ps) dots

abbrev pub member_declarator_parts_told : MemberDeclaratorTree → MemberDeclaratorOpen
member_declarator_parts_told (MemberDeclarator-F.Plain inner) =
    MemberDeclarator-F.Plain (declarator_layer inner)
member_declarator_parts_told (MemberDeclarator-F.Field inner width) =
    MemberDeclarator-F.Field (declarator_layer inner) (expression width)
member_declarator_parts_told (MemberDeclarator-F.Unnamed width) =
    MemberDeclarator-F.Unnamed (expression width)

abbrev pub specifier_parts_told : SpecifierTree → SpecifierOpen
specifier_parts_told (Specifier-F.Storage word) = Specifier-F.Storage word
specifier_parts_told Specifier-F.Inline = Specifier-F.Inline
specifier_parts_told (Specifier-F.Qualifier word) = Specifier-F.Qualifier word
specifier_parts_told (Specifier-F.Type word) = Specifier-F.Type word
specifier_parts_told (Specifier-F.Struct tag members) = Specifier-F.Struct tag (map member_found members)
specifier_parts_told (Specifier-F.StructTag tag) = Specifier-F.StructTag tag
specifier_parts_told (Specifier-F.Enum tag items) = Specifier-F.Enum tag (map item_found items)
specifier_parts_told (Specifier-F.EnumTag tag) = Specifier-F.EnumTag tag
specifier_parts_told (Specifier-F.Typedef name) = Specifier-F.Typedef name

-- ---- one layer at a time

abbrev pub DeclaratorsFollowTheirForms : Type 0
DeclaratorsFollowTheirForms =
    (d : Declarator) → declarator_layer d
    ≡ in_declarator (declarator_parts_told (out-DeclaratorForm d.form)) d.spot d.ordinal

abbrev pub SpecifiersFollowTheirForms : Type 0
SpecifiersFollowTheirForms =
    (s : Specifier) → specifier_found s ≡ of_specifier (specifier_parts_told (out-Specifier s))

abbrev pub MemberDeclaratorsFollowTheirForms : Type 0
MemberDeclaratorsFollowTheirForms =
    (d : MemberDeclarator) →
    member_declarator_found d ≡ of_member_declarator (member_declarator_parts_told (out-MemberDeclarator d))

abbrev pub MembersFollowTheirParts : Type 0
MembersFollowTheirParts =
    (m : Member) → member_found m
    ≡ member_told (map specifier_found m.specifiers) (map member_declarator_found m.declarators)

abbrev pub ItemsFollowTheirParts : Type 0
ItemsFollowTheirParts =
    (i : Item) → item_found i ≡
    of_item (record {
      spot = (out-Item i).spot;
      ordinal = (out-Item i).ordinal;
      name = (out-Item i).name;
      value = option_map expression (out-Item i).value;
    })

abbrev pub ParametersFollowTheirParts : Type 0
ParametersFollowTheirParts =
    (p : Parameter) → parameter_found p
    ≡ parameter_told (map specifier_found (out-Parameter p).specifiers)
    (option_map declarator_layer (out-Parameter p).declarator)

abbrev pub TypeNamesFollowTheirParts : Type 0
TypeNamesFollowTheirParts =
    (t : TypeName) → type_found t
    ≡ type_name_told (map specifier_found (out-TypeName t).specifiers)
    (option_map declarator_layer (out-TypeName t).declarator)

-- ---- what an expression adds and how it is written doesn't depend on what it stands as

abbrev pub AdditionsInAnyRole : Type 0
AdditionsInAnyRole = (e : Expr) (env : Env) → (expression e env).adds ≡ (expression e (as_operand env)).adds

abbrev pub LooksInAnyRole : Type 0
LooksInAnyRole = (e : Expr) (env : Env) → (expression e env).look ≡ (expression e (as_operand env)).look
