-- A rule of expressions says nothing where a part has no typing; so the codes of an expression hold whether that is asked or not.
use Rattle.std.proofs.Common.{◌≡◌, ◌&&◌, ℕ, Bool, true, false, List, [], ◌∷◌, map, Option, Some, None, refl, sym, ap}
use Rattle.std.specs.Prelude.{is_some, if◌then◌else◌}
use Rattle.std.proofs.lemmas.Bool.{false≢true}
use Rattle.lk_tree.specs.declared.expression.DeclaratorForm.TheOpen.{ExprForm-F}
use Rattle.lk_tree.specs.declared.expression.DeclaratorForm.{DeclaratorForm}
use Rattle.lk_tree.specs.declared.expression.Declarator.{Declarator}
use Rattle.lk_tree.specs.declared.expression.Expr.{Expr}
use Rattle.lk_tree.specs.declared.expression.ExprForm.{ExprForm, out-ExprForm}
use Rattle.lk_tree.specs.declared.expression.Item.{Item}
use Rattle.lk_tree.specs.declared.expression.Member.{Member}
use Rattle.lk_tree.specs.declared.expression.MemberDeclarator.{MemberDeclarator}
use Rattle.lk_tree.specs.declared.expression.Parameter.{Parameter}
use Rattle.lk_tree.specs.declared.expression.Specifier.{Specifier}
use Rattle.lk_tree.specs.declared.expression.TypeName.{TypeName}
use Rattle.lk_typed.specs.Calls.{Argument, call_rule}
use Rattle.lk_typed.specs.Assignments.{operator_of}
use Rattle.lk_typed.specs.Env.{Env, as_function, as_operand, extend}
use Rattle.lk_typed.specs.ExprRules as rules
use Rattle.lk_typed.specs.ExprRules.{arguments_of, one_more, with_arguments, codes_at}
use Rattle.lk_typed.specs.Expressions.{expression, at_pair, breach_at, expr_breaches, expr_parts, written}
use Rattle.lk_typed.specs.Faults.{Breach}
use Rattle.lk_typed.specs.Forms.{Placed, as_cast, as_right, behind, found_at, in_place, passes_of, placed_arguments, role_in_parentheses, role_in_prefix}
use Rattle.lk_typed.specs.NodeRules.{are_typed}
use Rattle.lk_typed.specs.Nodes.{AnExpression, ATypeName}
use Rattle.lk_typed.specs.Ty.{Ty}
use Rattle.lk_typed.specs.Typing.{Typing, Judged, Named, Verdict, codes_of, with_one, with_two, with_type}
use Rattle.lk_rules.specs.Laws.{ExpressionsAreAsked, name_found}

-- a layer of a tree
abbrev Layer : Type 0 → Type 0 → Type 0
Layer E T = ExprForm-F DeclaratorForm ExprForm MemberDeclarator Specifier Declarator E Item Member Parameter T

-- ---- rules over parts of which one has no typing

one_silent : (a : Option Typing) (f : Typing → Verdict) → (is_some a && true) ≡ false → codes_of (with_one a f) ≡ []
one_silent None f h = refl
one_silent (Some x) f h = absurd (false≢true (sym h))

two_silent : (a b : Option Typing) (f : Typing → Typing → Verdict) → (is_some a && (is_some b && true)) ≡ false → codes_of (with_two a b f) ≡ []
two_silent None b f h = refl
two_silent (Some x) None f h = refl
two_silent (Some x) (Some y) f h = absurd (false≢true (sym h))

three_silent : (c a b : Option Typing) (f : Typing → Typing → Typing → Verdict) → (is_some c && (is_some a && (is_some b && true))) ≡ false →
    codes_of (with_one c (λ z. with_two a b (f z))) ≡ []
three_silent None a b f h = refl
three_silent (Some z) None b f h = refl
three_silent (Some z) (Some x) None f h = refl
three_silent (Some z) (Some x) (Some y) f h = absurd (false≢true (sym h))

type_silent : (t : Option Ty) (f : Ty → Verdict) → (is_some t && true) ≡ false → codes_of (with_type t f) ≡ []
type_silent None f h = refl
type_silent (Some x) f h = absurd (false≢true (sym h))

cast_silent : (t : Option Ty) (a : Option Typing) (f : Ty → Typing → Verdict) → (is_some t && (is_some a && true)) ≡ false →
    codes_of (with_type t (λ u. with_one a (f u))) ≡ []
cast_silent None a f h = refl
cast_silent (Some u) None f h = refl
cast_silent (Some u) (Some x) f h = absurd (false≢true (sym h))

-- ---- calls

one_missing : (found : Judged) (t : Option Typing) (others : Option (List Argument)) (b : Bool) → (b ≡ false → others ≡ None) → (is_some t && b) ≡ false →
    one_more found t others ≡ None
one_missing found None others b h i = refl
one_missing found (Some x) None b h i = refl
one_missing found (Some x) (Some os) true h i = absurd (false≢true (sym i))
one_missing found (Some x) (Some os) false h i = ap (one_more found (Some x)) (h refl)

arguments_missing : (placed : List (Placed Expr)) → are_typed (map at_pair (map (in_place AnExpression) placed)) ≡ false →
    arguments_of (map (found_at expression) placed) ≡ None
arguments_missing [] h = absurd (false≢true (sym h))
arguments_missing ((env, a) ∷ others) h =
    one_missing (expression a env) (expression a env).typing (arguments_of (map (found_at expression) others)) (are_typed (map at_pair (map (in_place AnExpression) others)))
    (arguments_missing others) h

call_silent : (f : Option Typing) (given : Option (List Argument)) (b : Bool) (rule : Typing → List Argument → Verdict) → (b ≡ false → given ≡ None) →
    (is_some f && b) ≡ false → codes_of (with_one f (λ x. with_arguments given (rule x))) ≡ []
call_silent None given b rule h i = refl
call_silent (Some x) given true rule h i = absurd (false≢true (sym i))
call_silent (Some x) given false rule h i = ap (λ given. codes_of (with_arguments given (rule x))) (h refl)

-- ---- each form

-- an operand, and one behind another one
abbrev first : Env → Expr → Option Typing
first env e = (expression e (as_operand env)).typing

abbrev second : Env → Expr → Expr → Option Typing
second env a b = (expression b (as_operand (behind env (expression a (as_operand env))))).typing

silent : (env : Env) (n : ℕ) (form : Layer Expr TypeName) → are_typed (map at_pair (rules.parts AnExpression ATypeName expression name_found env form)) ≡ false →
    codes_at expression name_found env n form ≡ []
silent env n (ExprForm-F.Comma left right) h = two_silent (first env left) (second env left right) _ h
silent env n (ExprForm-F.Assign op left right) h =
    let found = expression left (as_operand env) in
    two_silent found.typing (expression right (as_right (operator_of op) found.typing (behind env found))).typing _ h
silent env n (ExprForm-F.Choice condition taken other) h =
    let arm = as_operand (behind env (expression condition (as_operand env))) in
    three_silent (first env condition) (expression taken arm).typing (expression other (behind arm (expression taken arm))).typing _ h
silent env n (ExprForm-F.Binary op left right) h = two_silent (first env left) (second env left right) _ h
silent env n (ExprForm-F.Cast type operand) h =
    let found = name_found type (as_operand env) in
    cast_silent found.type (expression operand (as_cast found.type (extend env found.adds))).typing _ h
silent env n (ExprForm-F.Pre op operand) h = one_silent (first env operand) _ h
silent env n (ExprForm-F.Prefix op operand) h = one_silent (expression operand (record env { role = role_in_prefix op env.role })).typing _ h
silent env n (ExprForm-F.SizeofExpr operand) h = one_silent (first env operand) _ h
silent env n (ExprForm-F.SizeofType type) h = type_silent (name_found type (as_operand env)).type _ h
silent env n (ExprForm-F.Index array inner) h = two_silent (first env array) (second env array inner) _ h
silent env n (ExprForm-F.Call function arguments) h =
    let f = expression function (as_function env) in
    let placed = placed_arguments expression (behind env f) (passes_of f f.typing) arguments in
    let found : Layer Judged Named = ExprForm-F.Call f (map (found_at expression) placed) in
    call_silent f.typing (arguments_of (map (found_at expression) placed)) (are_typed (map at_pair (map (in_place AnExpression) placed)))
    (λ x given. call_rule (extend env (rules.additions_of found)) (record { typing = x; look = f.look }) given) (arguments_missing placed) h
silent env n (ExprForm-F.Member object name) h = one_silent (first env object) _ h
silent env n (ExprForm-F.Arrow pointer name) h = one_silent (first env pointer) _ h
silent env n (ExprForm-F.Post op operand) h = one_silent (first env operand) _ h
silent env n (ExprForm-F.Word word) h = absurd (false≢true (sym h))
silent env n (ExprForm-F.Number kind number) h = absurd (false≢true (sym h))
silent env n (ExprForm-F.Char number) h = absurd (false≢true (sym h))
silent env n (ExprForm-F.Text bytes) h = absurd (false≢true (sym h))
silent env n (ExprForm-F.Paren inner) h = one_silent (expression inner (record env { role = role_in_parentheses env.role })).typing _ h

-- ---- an expression as a node

unless_empty : (b : Bool) (xs : List Breach) → (b ≡ false → xs ≡ []) → (if b then xs else []) ≡ xs
unless_empty true xs h = refl
unless_empty false xs h = sym (h refl)

pub expressions_are_asked : ExpressionsAreAsked
expressions_are_asked at_end env e =
    unless_empty (are_typed (expr_parts e env)) (expr_breaches e env) (λ h. ap (map (breach_at (written e))) (silent env e.ordinal (out-ExprForm e.form) h))
