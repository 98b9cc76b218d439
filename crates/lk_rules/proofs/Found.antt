-- What is found of an expression, form by form.
use Rattle.std.proofs.Common.{◌≡◌, ◌∙◌, ℕ, List, [], ◌∷◌, map, refl, sym, ap}
use Rattle.lk_tree.specs.declared.expression.DeclaratorForm.TheOpen.{ExprForm-F, Expr-F}
use Rattle.lk_tree.specs.declared.expression.DeclaratorForm.TheFolds.{fold-ExprForm, fold-roll-ExprForm, fold-roll-Expr}
use Rattle.lk_tree.specs.declared.expression.DeclaratorForm.{DeclaratorForm}
use Rattle.lk_tree.specs.declared.expression.Declarator.{Declarator}
use Rattle.lk_tree.specs.declared.expression.Expr.{Expr}
use Rattle.lk_tree.specs.declared.expression.ExprForm.{ExprForm, out-ExprForm, roll-ExprForm, roll-out-ExprForm}
use Rattle.lk_tree.specs.declared.expression.Item.{Item}
use Rattle.lk_tree.specs.declared.expression.Member.{Member}
use Rattle.lk_tree.specs.declared.expression.MemberDeclarator.{MemberDeclarator}
use Rattle.lk_tree.specs.declared.expression.Parameter.{Parameter}
use Rattle.lk_tree.specs.declared.expression.Specifier.{Specifier}
use Rattle.lk_tree.specs.declared.expression.TypeName.{TypeName}
use Rattle.lk_typed.specs.Env.{Env, as_operand, as_function, extend}
use Rattle.lk_typed.specs.ExprRules.{judged, rule, look_of, additions_of}
use Rattle.lk_typed.specs.Expressions.{expression, named, type_found}
use Rattle.lk_typed.specs.Forms.{found_at, placed_arguments, passes_of, as_passed, behind}
use Rattle.lk_typed.specs.Layers.{Placed, DeclaratorLayer, ParameterTeller, MemberDeclaratorTeller}
use Rattle.lk_typed.specs.Library.{Passing}
use Rattle.lk_typed.specs.Telling.{ExprTeller, FormTeller, TypeNameTeller, in_declarator, of_member_declarator, of_specifier, of_declarator, of_item, of_member, of_parameter, of_type_name}
use Rattle.lk_typed.specs.Told.{SpecifierTeller, MemberTeller, ItemTeller}
use Rattle.lk_typed.specs.Typing.{Judged, Named, typing_of}
use Rattle.lk_rules.specs.Laws.{ExpressionsFollowTheirRules, name_found}

-- a layer of a tree
abbrev pub Layer : Type 0
Layer = ExprForm-F DeclaratorForm ExprForm MemberDeclarator Specifier Declarator Expr Item Member Parameter TypeName

-- what an expression tells, asked for what is found of it
abbrev asked : ExprTeller → Env → Judged
asked told env = told env

-- arguments are judged alike by what they tell
arguments_same : {E : Type 0} (judge : E → Env → Judged) (env : Env) (passes : List Passing) (arguments : List E) →
    map (found_at asked) (placed_arguments asked env passes (map judge arguments)) ≡ map (found_at judge) (placed_arguments judge env passes arguments)
arguments_same judge env passes [] = refl
arguments_same judge env [] (a ∷ others) = ap (λ found. judge a (as_operand env) ∷ found) (arguments_same judge (behind env (judge a (as_operand env))) [] others)
arguments_same judge env (pass ∷ passes) (a ∷ others) =
    ap (λ found. judge a (as_passed pass env) ∷ found) (arguments_same judge (behind env (judge a (as_passed pass env))) passes others)

-- the steps of the fold for expressions and their forms
abbrev pub DeclaratorFormTeller : Type 0
DeclaratorFormTeller = Placed DeclaratorLayer

abbrev pub in_expr : ExprForm-F DeclaratorFormTeller FormTeller MemberDeclaratorTeller SpecifierTeller DeclaratorLayer ExprTeller ItemTeller MemberTeller ParameterTeller TypeNameTeller → FormTeller
in_expr form n env = judged asked named env n form

abbrev pub of_expr : Expr-F DeclaratorFormTeller FormTeller MemberDeclaratorTeller SpecifierTeller DeclaratorLayer ExprTeller ItemTeller MemberTeller ParameterTeller TypeNameTeller → ExprTeller
of_expr node = node.form node.ordinal

-- what is found of a call, by what was found of its parts
abbrev call_layer : Judged → List Judged → ExprForm-F DeclaratorForm ExprForm MemberDeclarator Specifier Declarator Judged Item Member Parameter Named
call_layer function arguments = ExprForm-F.Call function arguments

abbrev call_judged : Env → ℕ → Judged → List Judged → Judged
call_judged env n function arguments =
    record {
      typing = typing_of (rule (extend env (additions_of (call_layer function arguments))) n (call_layer function arguments));
      look = look_of env (call_layer function arguments);
      adds = additions_of (call_layer function arguments);
    }

form_found : (form : Layer) (n : ℕ) (env : Env) →
    fold-ExprForm DeclaratorFormTeller FormTeller MemberDeclaratorTeller SpecifierTeller DeclaratorLayer ExprTeller ItemTeller MemberTeller ParameterTeller TypeNameTeller
    in_declarator in_expr of_member_declarator of_specifier of_declarator of_expr of_item of_member of_parameter of_type_name (roll-ExprForm form) n env ≡ judged expression name_found env n form
unfolding expression type_found
form_found (ExprForm-F.Comma left right) n env =
    ap (λ f. f n env) (fold-roll-ExprForm DeclaratorFormTeller FormTeller MemberDeclaratorTeller SpecifierTeller DeclaratorLayer ExprTeller ItemTeller MemberTeller ParameterTeller TypeNameTeller
    in_declarator in_expr of_member_declarator of_specifier of_declarator of_expr of_item of_member of_parameter of_type_name (ExprForm-F.Comma left right))
form_found (ExprForm-F.Assign op left right) n env =
    ap (λ f. f n env) (fold-roll-ExprForm DeclaratorFormTeller FormTeller MemberDeclaratorTeller SpecifierTeller DeclaratorLayer ExprTeller ItemTeller MemberTeller ParameterTeller TypeNameTeller
    in_declarator in_expr of_member_declarator of_specifier of_declarator of_expr of_item of_member of_parameter of_type_name (ExprForm-F.Assign op left right))
form_found (ExprForm-F.Choice condition taken other) n env =
    ap (λ f. f n env) (fold-roll-ExprForm DeclaratorFormTeller FormTeller MemberDeclaratorTeller SpecifierTeller DeclaratorLayer ExprTeller ItemTeller MemberTeller ParameterTeller TypeNameTeller
    in_declarator in_expr of_member_declarator of_specifier of_declarator of_expr of_item of_member of_parameter of_type_name (ExprForm-F.Choice condition taken other))
form_found (ExprForm-F.Binary op left right) n env =
    ap (λ f. f n env) (fold-roll-ExprForm DeclaratorFormTeller FormTeller MemberDeclaratorTeller SpecifierTeller DeclaratorLayer ExprTeller ItemTeller MemberTeller ParameterTeller TypeNameTeller
    in_declarator in_expr of_member_declarator of_specifier of_declarator of_expr of_item of_member of_parameter of_type_name (ExprForm-F.Binary op left right))
form_found (ExprForm-F.Cast type operand) n env =
    ap (λ f. f n env) (fold-roll-ExprForm DeclaratorFormTeller FormTeller MemberDeclaratorTeller SpecifierTeller DeclaratorLayer ExprTeller ItemTeller MemberTeller ParameterTeller TypeNameTeller
    in_declarator in_expr of_member_declarator of_specifier of_declarator of_expr of_item of_member of_parameter of_type_name (ExprForm-F.Cast type operand))
form_found (ExprForm-F.Pre op operand) n env =
    ap (λ f. f n env) (fold-roll-ExprForm DeclaratorFormTeller FormTeller MemberDeclaratorTeller SpecifierTeller DeclaratorLayer ExprTeller ItemTeller MemberTeller ParameterTeller TypeNameTeller
    in_declarator in_expr of_member_declarator of_specifier of_declarator of_expr of_item of_member of_parameter of_type_name (ExprForm-F.Pre op operand))
form_found (ExprForm-F.Prefix op operand) n env =
    ap (λ f. f n env) (fold-roll-ExprForm DeclaratorFormTeller FormTeller MemberDeclaratorTeller SpecifierTeller DeclaratorLayer ExprTeller ItemTeller MemberTeller ParameterTeller TypeNameTeller
    in_declarator in_expr of_member_declarator of_specifier of_declarator of_expr of_item of_member of_parameter of_type_name (ExprForm-F.Prefix op operand))
form_found (ExprForm-F.SizeofExpr operand) n env =
    ap (λ f. f n env) (fold-roll-ExprForm DeclaratorFormTeller FormTeller MemberDeclaratorTeller SpecifierTeller DeclaratorLayer ExprTeller ItemTeller MemberTeller ParameterTeller TypeNameTeller
    in_declarator in_expr of_member_declarator of_specifier of_declarator of_expr of_item of_member of_parameter of_type_name (ExprForm-F.SizeofExpr operand))
form_found (ExprForm-F.SizeofType type) n env =
    ap (λ f. f n env) (fold-roll-ExprForm DeclaratorFormTeller FormTeller MemberDeclaratorTeller SpecifierTeller DeclaratorLayer ExprTeller ItemTeller MemberTeller ParameterTeller TypeNameTeller
    in_declarator in_expr of_member_declarator of_specifier of_declarator of_expr of_item of_member of_parameter of_type_name (ExprForm-F.SizeofType type))
form_found (ExprForm-F.Index array inner) n env =
    ap (λ f. f n env) (fold-roll-ExprForm DeclaratorFormTeller FormTeller MemberDeclaratorTeller SpecifierTeller DeclaratorLayer ExprTeller ItemTeller MemberTeller ParameterTeller TypeNameTeller
    in_declarator in_expr of_member_declarator of_specifier of_declarator of_expr of_item of_member of_parameter of_type_name (ExprForm-F.Index array inner))
form_found (ExprForm-F.Call function arguments) n env =
    ap (λ f. f n env) (fold-roll-ExprForm DeclaratorFormTeller FormTeller MemberDeclaratorTeller SpecifierTeller DeclaratorLayer ExprTeller ItemTeller MemberTeller ParameterTeller TypeNameTeller
    in_declarator in_expr of_member_declarator of_specifier of_declarator of_expr of_item of_member of_parameter of_type_name (ExprForm-F.Call function arguments)) ∙
    (let found = expression function (as_function env) in
    ap (call_judged env n found) (arguments_same expression (behind env found) (passes_of found found.typing) arguments))
form_found (ExprForm-F.Member object member) n env =
    ap (λ f. f n env) (fold-roll-ExprForm DeclaratorFormTeller FormTeller MemberDeclaratorTeller SpecifierTeller DeclaratorLayer ExprTeller ItemTeller MemberTeller ParameterTeller TypeNameTeller
    in_declarator in_expr of_member_declarator of_specifier of_declarator of_expr of_item of_member of_parameter of_type_name (ExprForm-F.Member object member))
form_found (ExprForm-F.Arrow pointer member) n env =
    ap (λ f. f n env) (fold-roll-ExprForm DeclaratorFormTeller FormTeller MemberDeclaratorTeller SpecifierTeller DeclaratorLayer ExprTeller ItemTeller MemberTeller ParameterTeller TypeNameTeller
    in_declarator in_expr of_member_declarator of_specifier of_declarator of_expr of_item of_member of_parameter of_type_name (ExprForm-F.Arrow pointer member))
form_found (ExprForm-F.Post op operand) n env =
    ap (λ f. f n env) (fold-roll-ExprForm DeclaratorFormTeller FormTeller MemberDeclaratorTeller SpecifierTeller DeclaratorLayer ExprTeller ItemTeller MemberTeller ParameterTeller TypeNameTeller
    in_declarator in_expr of_member_declarator of_specifier of_declarator of_expr of_item of_member of_parameter of_type_name (ExprForm-F.Post op operand))
form_found (ExprForm-F.Word word) n env =
    ap (λ f. f n env) (fold-roll-ExprForm DeclaratorFormTeller FormTeller MemberDeclaratorTeller SpecifierTeller DeclaratorLayer ExprTeller ItemTeller MemberTeller ParameterTeller TypeNameTeller
    in_declarator in_expr of_member_declarator of_specifier of_declarator of_expr of_item of_member of_parameter of_type_name (ExprForm-F.Word word))
form_found (ExprForm-F.Number kind number) n env =
    ap (λ f. f n env) (fold-roll-ExprForm DeclaratorFormTeller FormTeller MemberDeclaratorTeller SpecifierTeller DeclaratorLayer ExprTeller ItemTeller MemberTeller ParameterTeller TypeNameTeller
    in_declarator in_expr of_member_declarator of_specifier of_declarator of_expr of_item of_member of_parameter of_type_name (ExprForm-F.Number kind number))
form_found (ExprForm-F.Char number) n env =
    ap (λ f. f n env) (fold-roll-ExprForm DeclaratorFormTeller FormTeller MemberDeclaratorTeller SpecifierTeller DeclaratorLayer ExprTeller ItemTeller MemberTeller ParameterTeller TypeNameTeller
    in_declarator in_expr of_member_declarator of_specifier of_declarator of_expr of_item of_member of_parameter of_type_name (ExprForm-F.Char number))
form_found (ExprForm-F.Text bytes) n env =
    ap (λ f. f n env) (fold-roll-ExprForm DeclaratorFormTeller FormTeller MemberDeclaratorTeller SpecifierTeller DeclaratorLayer ExprTeller ItemTeller MemberTeller ParameterTeller TypeNameTeller
    in_declarator in_expr of_member_declarator of_specifier of_declarator of_expr of_item of_member of_parameter of_type_name (ExprForm-F.Text bytes))
form_found (ExprForm-F.Paren inner) n env =
    ap (λ f. f n env) (fold-roll-ExprForm DeclaratorFormTeller FormTeller MemberDeclaratorTeller SpecifierTeller DeclaratorLayer ExprTeller ItemTeller MemberTeller ParameterTeller TypeNameTeller
    in_declarator in_expr of_member_declarator of_specifier of_declarator of_expr of_item of_member of_parameter of_type_name (ExprForm-F.Paren inner))

pub expressions_follow_their_rules : ExpressionsFollowTheirRules
unfolding expression type_found
expressions_follow_their_rules e env =
    ap (λ told. told env) (fold-roll-Expr DeclaratorFormTeller FormTeller MemberDeclaratorTeller SpecifierTeller DeclaratorLayer ExprTeller ItemTeller MemberTeller ParameterTeller TypeNameTeller
    in_declarator in_expr of_member_declarator of_specifier of_declarator of_expr of_item of_member of_parameter of_type_name (record { spot = e.spot; ordinal = e.ordinal; form = e.form })) ∙
    ap (λ form. fold-ExprForm DeclaratorFormTeller FormTeller MemberDeclaratorTeller SpecifierTeller DeclaratorLayer ExprTeller ItemTeller MemberTeller ParameterTeller TypeNameTeller
    in_declarator in_expr of_member_declarator of_specifier of_declarator of_expr of_item of_member of_parameter of_type_name form e.ordinal env) (sym (roll-out-ExprForm e.form)) ∙
    form_found (out-ExprForm e.form) e.ordinal env
