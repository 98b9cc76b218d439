-- What is found of each expression, declarator, specifier and type name of a tree in an environment: one
-- fold, in which the rules of expressions and the layers of declarations tell one another.
use Rattle.std.specs.Prelude.{ℕ, Bool, false, Option, Some, None, List, [], ◌∷◌, map, length, is_some}
use Rattle.lk_base.specs.declared.code.Code.{Code}
use Rattle.lk_base.specs.declared.code.Code.TheVariants.{Mismatch}
use Rattle.lk_tree.specs.declared.expression.DeclaratorForm.TheOpen.{ExprForm-F, Expr-F}
use Rattle.lk_tree.specs.declared.expression.DeclaratorForm.TheFolds.{fold-Expr, fold-Declarator, fold-Specifier, fold-Member, fold-MemberDeclarator, fold-Item, fold-Parameter, fold-TypeName}
use Rattle.lk_tree.specs.declared.expression.DeclaratorForm.{DeclaratorForm}
use Rattle.lk_tree.specs.declared.expression.Declarator.{Declarator}
use Rattle.lk_tree.specs.declared.expression.Expr.{Expr}
use Rattle.lk_tree.specs.declared.expression.ExprForm.{ExprForm, out-ExprForm}
use Rattle.lk_tree.specs.declared.expression.Item.{Item}
use Rattle.lk_tree.specs.declared.expression.Member.{Member}
use Rattle.lk_tree.specs.declared.expression.MemberDeclarator.{MemberDeclarator}
use Rattle.lk_tree.specs.declared.expression.Parameter.{Parameter}
use Rattle.lk_tree.specs.declared.expression.Specifier.{Specifier}
use Rattle.lk_tree.specs.declared.expression.TypeName.{TypeName}
use Rattle.lk_typed.specs.Addresses.{value}
use Rattle.lk_typed.specs.Assignments.{given_codes}
use Rattle.lk_typed.specs.Env.{Env, Name, Additions, Declared, Meaning, AnObject, AFunction, ATypedef, AnEnumerator, AnInitialiserWord, AFaultyName, as_operand, converted_to, look_up}
use Rattle.lk_typed.specs.ExprRules as rules
use Rattle.lk_typed.specs.Faults.{Breach, breach}
use Rattle.lk_typed.specs.InitialiserRules.{Seen}
use Rattle.lk_typed.specs.Layers as layers
use Rattle.lk_typed.specs.Layers.{DeclaratorLayer, ParameterTeller, MemberDeclaratorTeller}
use Rattle.lk_typed.specs.Nodes.{Node, AnExpression, ATypeName, Placed, at}
use Rattle.lk_typed.specs.Statics.{is_static_value}
use Rattle.lk_typed.specs.Telling.{ExprTeller, FormTeller, TypeNameTeller, added, constant, in_declarator, of_member_declarator, of_specifier, of_declarator, of_item, of_member, of_parameter, of_type_name}
use Rattle.lk_typed.specs.Told.{SpecifierTeller, DeclaratorTold, MemberTeller, ItemTeller, specifiers}
use Rattle.lk_typed.specs.Ty.{Ty}
use Rattle.lk_typed.specs.declared.constant.Constant.{Constant}
use Rattle.lk_typed.specs.Typing.{Typing, Named}
use Rattle.lk_typed.specs.Words.{told_name}

-- ---- the fold

-- what a type name tells an expression
abbrev pub named : TypeNameTeller → Env → Named
named told env =
    record { type = (told env).type; holds_sizeof = (told env).holds_sizeof; adds = (told env).additions }

abbrev DeclaratorFormTeller : Type 0
DeclaratorFormTeller = layers.Placed DeclaratorLayer

abbrev in_expr : ExprForm-F DeclaratorFormTeller FormTeller MemberDeclaratorTeller SpecifierTeller
    DeclaratorLayer ExprTeller ItemTeller MemberTeller ParameterTeller TypeNameTeller → FormTeller
in_expr form n env = rules.judged (λ judge inside. judge inside) named env n form

abbrev of_expr : Expr-F DeclaratorFormTeller FormTeller MemberDeclaratorTeller SpecifierTeller DeclaratorLayer
    ExprTeller ItemTeller MemberTeller ParameterTeller TypeNameTeller → ExprTeller
of_expr node = node.form node.ordinal

unfoldable pub expression : Expr → ExprTeller
expression =
    fold-Expr DeclaratorFormTeller FormTeller MemberDeclaratorTeller SpecifierTeller DeclaratorLayer
    ExprTeller ItemTeller MemberTeller ParameterTeller TypeNameTeller
    in_declarator in_expr of_member_declarator of_specifier of_declarator of_expr of_item of_member
    of_parameter of_type_name

unfoldable pub declarator_layer : Declarator → DeclaratorLayer
declarator_layer =
    fold-Declarator DeclaratorFormTeller FormTeller MemberDeclaratorTeller SpecifierTeller DeclaratorLayer
    ExprTeller ItemTeller MemberTeller ParameterTeller TypeNameTeller
    in_declarator in_expr of_member_declarator of_specifier of_declarator of_expr of_item of_member
    of_parameter of_type_name

unfoldable pub specifier_found : Specifier → SpecifierTeller
specifier_found =
    fold-Specifier DeclaratorFormTeller FormTeller MemberDeclaratorTeller SpecifierTeller DeclaratorLayer
    ExprTeller ItemTeller MemberTeller ParameterTeller TypeNameTeller
    in_declarator in_expr of_member_declarator of_specifier of_declarator of_expr of_item of_member
    of_parameter of_type_name

unfoldable pub member_found : Member → MemberTeller
member_found =
    fold-Member DeclaratorFormTeller FormTeller MemberDeclaratorTeller SpecifierTeller DeclaratorLayer
    ExprTeller ItemTeller MemberTeller ParameterTeller TypeNameTeller
    in_declarator in_expr of_member_declarator of_specifier of_declarator of_expr of_item of_member
    of_parameter of_type_name

unfoldable pub member_declarator_found : MemberDeclarator → MemberDeclaratorTeller
member_declarator_found =
    fold-MemberDeclarator DeclaratorFormTeller FormTeller MemberDeclaratorTeller SpecifierTeller
    DeclaratorLayer ExprTeller ItemTeller MemberTeller ParameterTeller TypeNameTeller
    in_declarator in_expr of_member_declarator of_specifier of_declarator of_expr of_item of_member
    of_parameter of_type_name

unfoldable pub item_found : Item → ItemTeller
item_found =
    fold-Item DeclaratorFormTeller FormTeller MemberDeclaratorTeller SpecifierTeller DeclaratorLayer
    ExprTeller ItemTeller MemberTeller ParameterTeller TypeNameTeller
    in_declarator in_expr of_member_declarator of_specifier of_declarator of_expr of_item of_member
    of_parameter of_type_name

unfoldable pub parameter_found : Parameter → ParameterTeller
parameter_found =
    fold-Parameter DeclaratorFormTeller FormTeller MemberDeclaratorTeller SpecifierTeller DeclaratorLayer
    ExprTeller ItemTeller MemberTeller ParameterTeller TypeNameTeller
    in_declarator in_expr of_member_declarator of_specifier of_declarator of_expr of_item of_member
    of_parameter of_type_name

unfoldable pub type_found : TypeName → TypeNameTeller
type_found =
    fold-TypeName DeclaratorFormTeller FormTeller MemberDeclaratorTeller SpecifierTeller DeclaratorLayer
    ExprTeller ItemTeller MemberTeller ParameterTeller TypeNameTeller
    in_declarator in_expr of_member_declarator of_specifier of_declarator of_expr of_item of_member
    of_parameter of_type_name

-- specifiers, each behind those before it
abbrev pub specifiers_found : List Specifier → SpecifierTeller
specifiers_found ss = specifiers (map specifier_found ss)

abbrev pub declarator_found : Declarator → DeclaratorTold
declarator_found d = (declarator_layer d).told

-- ---- an expression of the tree as a node

abbrev name_of : TypeName → Env → Named
name_of t env = named (type_found t) env

-- a name alone, a text alone, or another expression
pub data Plainly : Type 0 where
  AWord : Name → Plainly
  AText : List ℕ → Plainly
  AnotherForm : Plainly

abbrev pub plainly : ExprForm-F DeclaratorForm ExprForm MemberDeclarator Specifier Declarator Expr Item Member
    Parameter TypeName → Plainly
plainly (ExprForm-F.Comma left right) = AnotherForm
plainly (ExprForm-F.Assign op left right) = AnotherForm
plainly (ExprForm-F.Choice condition taken other) = AnotherForm
plainly (ExprForm-F.Binary op left right) = AnotherForm
plainly (ExprForm-F.Cast type operand) = AnotherForm
plainly (ExprForm-F.Pre op operand) = AnotherForm
plainly (ExprForm-F.Prefix op operand) = AnotherForm
plainly (ExprForm-F.SizeofExpr operand) = AnotherForm
plainly (ExprForm-F.SizeofType type) = AnotherForm
plainly (ExprForm-F.Index array inner) = AnotherForm
plainly (ExprForm-F.Call function arguments) = AnotherForm
plainly (ExprForm-F.Member object name) = AnotherForm
plainly (ExprForm-F.Arrow pointer name) = AnotherForm
plainly (ExprForm-F.Post op operand) = AnotherForm
plainly (ExprForm-F.Word name) = AWord name
plainly (ExprForm-F.Number kind number) = AnotherForm
plainly (ExprForm-F.Char number) = AnotherForm
plainly (ExprForm-F.Text bytes) = AText bytes
plainly (ExprForm-F.Paren inner) = AnotherForm

abbrev pub written : Expr → Plainly
written e = plainly (out-ExprForm e.form)

-- a code that holds at an expression, with the name that it tells
abbrev pub breach_at : Plainly → Code → Breach
breach_at (AWord name) code = record { code = code; name = told_name code name }
breach_at (AText bytes) code = breach code
breach_at AnotherForm code = breach code

abbrev pub expr_breaches : Expr → Env → List Breach
expr_breaches e env =
    map (breach_at (written e)) (rules.codes_at expression name_of env e.ordinal (out-ExprForm e.form))

abbrev pub at_pair : (Env × Node) → Placed
at_pair (env, node) = at env node

abbrev pub expr_parts : Expr → Env → List Placed
expr_parts e env =
    map at_pair (rules.parts AnExpression ATypeName expression name_of env (out-ExprForm e.form))

-- ---- what declarations and statements ask of an expression

abbrev type_in : Option Typing → Option Ty
type_in None = None
type_in (Some typing) = Some (value typing).type

abbrev pub expr_adds : Expr → Env → Additions
expr_adds e = added (expression e)

abbrev pub expr_constant : Expr → Env → Option Constant
expr_constant e = constant (expression e)

-- whether it has a type where it stands
abbrev pub has_expr_type : Expr → Env → Bool
has_expr_type e env = is_some (expression e env).typing

-- the type of its value
abbrev pub expr_type : Expr → Env → Option Ty
expr_type e env = type_in (expression e (as_operand env)).typing

abbrev conversion_of : Ty → Option Typing → List Breach
conversion_of target None = []
conversion_of target (Some typing) = map breach (given_codes target typing)

-- the codes of its conversion to a type
abbrev pub expr_conversion : Expr → Env → Ty → List Breach
expr_conversion e env target = conversion_of target (expression e (converted_to env target)).typing

-- ---- what initialisers ask

abbrev bytes_of : Plainly → Option ℕ
bytes_of (AWord name) = None
bytes_of (AText bytes) = Some (length bytes)
bytes_of AnotherForm = None

-- how many bytes the text has that it is
abbrev pub expr_text : Expr → Option ℕ
expr_text e = bytes_of (written e)

abbrev initialiser_word : Meaning → Option Ty
initialiser_word (AnObject t static) = None
initialiser_word (AFunction t) = None
initialiser_word (ATypedef t) = None
initialiser_word (AnEnumerator n) = None
initialiser_word (AnInitialiserWord t) = Some t
initialiser_word AFaultyName = None

abbrev word_declared : Option Declared → Option Ty
word_declared None = None
word_declared (Some d) = initialiser_word d.meaning

abbrev word_in : Plainly → Env → Option Ty
word_in (AWord name) env = word_declared (look_up env name)
word_in (AText bytes) env = None
word_in AnotherForm env = None

-- the type whose initialiser word it is
abbrev pub expr_word : Expr → Env → Option Ty
expr_word e env = word_in (written e) env

-- an initialiser word has no value that converts: 22
abbrev seen_word : Ty → Seen
seen_word lock =
    record { type = lock; text = None; word = Some lock; conversion = breach Mismatch ∷ []; is_constant = false }

abbrev seen_typed : Option ℕ → Ty → Option Typing → Option Seen
seen_typed bytes target None = None
seen_typed bytes target (Some typing) =
    Some (record {
      type = (value typing).type;
      text = bytes;
      word = None;
      conversion = map breach (given_codes target typing);
      is_constant = is_static_value (value typing);
    })

abbrev seen_or_word : Option Ty → Option Seen → Option Seen
seen_or_word None seen = seen
seen_or_word (Some lock) seen = Some (seen_word lock)

-- what it is as the initialiser of an object of a type
abbrev pub expr_seen : Expr → Ty → Env → Option Seen
expr_seen e target env =
    seen_or_word (expr_word e env)
    (seen_typed (expr_text e) target (expression e (converted_to env target)).typing)
