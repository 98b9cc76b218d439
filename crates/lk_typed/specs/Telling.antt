-- What specifiers, declarators and type names tell in the fold over the tree, from
-- what expressions in them tell.
use Rattle.std.specs.Prelude.{ℕ, ◌||◌, Bool, true, false, Option, Some, None, [], ◌∷◌, ℤ}
use Rattle.lk_tree.specs.declared.expression.DeclaratorForm.TheOpen.{DeclaratorForm-F, MemberDeclarator-F, Specifier-F, Declarator-F, Item-F, Member-F, Parameter-F, TypeName-F}
use Rattle.lk_typed.specs.DeclaratorRules.{Size}
use Rattle.lk_typed.specs.Env.{Env, Additions, nothing, both, extend, look_up, as_operand}
use Rattle.lk_typed.specs.Layers.{Placed, DeclaratorLayer, ParameterTeller, MemberDeclaratorTeller, layer, inner_of, named_told, pointer_layer, array_told, function_layer, parameter_told, type_name_told, plain_member, faulty_member, member_told, item_told}
use Rattle.lk_typed.specs.Told.{SpecifierTeller, MemberTeller, ItemTeller, TypeTold, no_specifier, of_type_alone, struct_named, struct_use, struct_defined, enum_named, enum_defined, typedef_of, next_value, written_value}
use Rattle.lk_typed.specs.declared.constant.Constant.{Constant}
use Rattle.lk_typed.specs.Typing.{Judged, constant_in}

-- ---- what an expression tells: what is found of it in an environment

abbrev pub ExprTeller : Type 0
ExprTeller = Env → Judged

-- its form waits for the number of its node
abbrev pub FormTeller : Type 0
FormTeller = ℕ → ExprTeller

abbrev pub TypeNameTeller : Type 0
TypeNameTeller = Env → TypeTold

abbrev pub added : ExprTeller → Env → Additions
added judge env = (judge (as_operand env)).adds

abbrev pub constant : ExprTeller → Env → Option Constant
constant judge env = constant_in (judge (as_operand env)).typing

abbrev pub holds_sizeof : ExprTeller → Env → Bool
holds_sizeof judge env = (judge (as_operand env)).look.holds_sizeof

-- ---- declarators, specifiers and type names

abbrev pub DeclaratorOpen : Type 0
DeclaratorOpen =
    DeclaratorForm-F (Placed DeclaratorLayer) FormTeller MemberDeclaratorTeller SpecifierTeller
    DeclaratorLayer ExprTeller ItemTeller MemberTeller ParameterTeller TypeNameTeller

abbrev pub MemberDeclaratorOpen : Type 0
MemberDeclaratorOpen =
    MemberDeclarator-F (Placed DeclaratorLayer) FormTeller MemberDeclaratorTeller SpecifierTeller
    DeclaratorLayer ExprTeller ItemTeller MemberTeller ParameterTeller TypeNameTeller

abbrev pub SpecifierOpen : Type 0
SpecifierOpen =
    Specifier-F (Placed DeclaratorLayer) FormTeller MemberDeclaratorTeller SpecifierTeller DeclaratorLayer
    ExprTeller ItemTeller MemberTeller ParameterTeller TypeNameTeller

abbrev pub size_added : Option ExprTeller → Env → Additions
size_added None env = nothing
size_added (Some x) env = added x env

abbrev pub size_holds : Option ExprTeller → Env → Bool
size_holds None env = false
size_holds (Some x) env = holds_sizeof x env

abbrev pub size_of : Option ExprTeller → Env → Size
size_of None env = None
size_of (Some x) env = Some (constant x env)

abbrev pub in_declarator : DeclaratorOpen → Placed DeclaratorLayer
in_declarator (DeclaratorForm-F.Star qualifiers inner) spot n = pointer_layer inner
in_declarator (DeclaratorForm-F.Named name) spot n = layer (named_told name spot n) true
in_declarator (DeclaratorForm-F.Group inner) spot n = inner
in_declarator (DeclaratorForm-F.ArrayOf inner size) spot n =
    layer (array_told (inner_of inner).told (size_of size) (size_added size) (size_holds size)) false
in_declarator (DeclaratorForm-F.FunctionOf inner parameters dots) spot n =
    function_layer inner parameters dots

-- 30: a bit-field, with a name or without
abbrev pub of_member_declarator : MemberDeclaratorOpen → MemberDeclaratorTeller
of_member_declarator (MemberDeclarator-F.Plain inner) = plain_member inner
of_member_declarator (MemberDeclarator-F.Field inner width) = λ env t before.
    let a = inner.told.additions env in
    faulty_member (both a (added width (extend env a)))
    (inner.told.holds_sizeof env || holds_sizeof width (extend env a))
of_member_declarator (MemberDeclarator-F.Unnamed width) =
    λ env t before. faulty_member (added width env) (holds_sizeof width env)

abbrev pub of_specifier : SpecifierOpen → SpecifierTeller
of_specifier (Specifier-F.Storage word) = λ env alone. record no_specifier { storages = word ∷ [] }
of_specifier Specifier-F.Inline = λ env alone. no_specifier
of_specifier (Specifier-F.Qualifier word) = λ env alone. no_specifier
of_specifier (Specifier-F.Type word) = λ env alone. record no_specifier { words = word ∷ [] }
of_specifier (Specifier-F.Struct tag members) = λ env alone. struct_defined env tag members
of_specifier (Specifier-F.StructTag tag) = λ env alone. struct_named env (struct_use alone) tag
of_specifier (Specifier-F.Enum tag items) = λ env alone. enum_defined env tag items
of_specifier (Specifier-F.EnumTag tag) = λ env alone. enum_named env tag
of_specifier (Specifier-F.Typedef name) = λ env alone. of_type_alone nothing (typedef_of (look_up env name))

abbrev pub of_declarator : Declarator-F (Placed DeclaratorLayer) FormTeller MemberDeclaratorTeller
    SpecifierTeller DeclaratorLayer ExprTeller ItemTeller MemberTeller ParameterTeller TypeNameTeller →
    DeclaratorLayer
of_declarator node = node.form node.spot node.ordinal

abbrev pub item_value : Option ExprTeller → Env → Option ℤ → Option ℤ
item_value None env before = next_value before
item_value (Some x) env before = written_value (constant x env)

abbrev pub of_item : Item-F (Placed DeclaratorLayer) FormTeller MemberDeclaratorTeller SpecifierTeller
    DeclaratorLayer ExprTeller ItemTeller MemberTeller ParameterTeller TypeNameTeller → ItemTeller
of_item node =
    λ env before. item_told node.name node.ordinal (size_added node.value env)
    (item_value node.value env before) (size_holds node.value env)

abbrev pub of_member : Member-F (Placed DeclaratorLayer) FormTeller MemberDeclaratorTeller SpecifierTeller
    DeclaratorLayer ExprTeller ItemTeller MemberTeller ParameterTeller TypeNameTeller → MemberTeller
of_member node = member_told node.specifiers node.declarators

abbrev pub of_parameter : Parameter-F (Placed DeclaratorLayer) FormTeller MemberDeclaratorTeller
    SpecifierTeller DeclaratorLayer ExprTeller ItemTeller MemberTeller ParameterTeller TypeNameTeller →
    ParameterTeller
of_parameter node = parameter_told node.specifiers node.declarator

abbrev pub of_type_name : TypeName-F (Placed DeclaratorLayer) FormTeller MemberDeclaratorTeller
    SpecifierTeller DeclaratorLayer ExprTeller ItemTeller MemberTeller ParameterTeller TypeNameTeller →
    TypeNameTeller
of_type_name node = type_name_told node.specifiers node.declarator
