-- What an expression adds, and how it is written, doesn't depend on what it stands as.
use Rattle.std.proofs.Common.{◌≡◌, ◌∙◌, ℕ, Bool, true, false, List, [], ◌∷◌, Option, Some, None, refl, sym, ap, subst}
use Rattle.lk_tree.specs.declared.expression.DeclaratorForm.TheOpen.{ExprForm-F, Expr-F}
use Rattle.lk_tree.specs.declared.expression.DeclaratorForm.TheFolds.{ind-Expr, map-ExprForm, map-Expr}
use Rattle.lk_tree.specs.declared.expression.DeclaratorForm.{DeclaratorForm}
use Rattle.lk_tree.specs.declared.expression.Declarator.{Declarator}
use Rattle.lk_tree.specs.declared.expression.Expr.{Expr, roll-Expr}
use Rattle.lk_tree.specs.declared.expression.ExprForm.{ExprForm, out-ExprForm, roll-ExprForm, out-roll-ExprForm}
use Rattle.lk_tree.specs.declared.expression.Item.{Item}
use Rattle.lk_tree.specs.declared.expression.Member.{Member}
use Rattle.lk_tree.specs.declared.expression.MemberDeclarator.{MemberDeclarator}
use Rattle.lk_tree.specs.declared.expression.Parameter.{Parameter}
use Rattle.lk_tree.specs.declared.expression.Specifier.{Specifier}
use Rattle.lk_tree.specs.declared.expression.TypeName.{TypeName}
use Rattle.lk_tree.specs.declared.operators.BinaryOperator.{BinaryOperator}
use Rattle.lk_typed.specs.Assignments.{operator_of}
use Rattle.lk_typed.specs.Env.{Env, Additions, AsOperand, as_operand, as_function, both, converted_to, extend, nothing}
use Rattle.lk_typed.specs.ExprRules.{judged, look_of, additions_of, found_in, routine_behind}
use Rattle.lk_typed.specs.Expressions.{expression}
use Rattle.lk_typed.specs.Forms.{Placed, as_cast, as_passed, as_right, behind, each_part, found_at, passes_of, placed, placed_arguments, role_in_parentheses, role_in_prefix}
use Rattle.lk_typed.specs.Library.{Passing, Converted, NullFor, Routine, Size}
use Rattle.lk_typed.specs.Ty.{Ty, is_function}
use Rattle.std.specs.Prelude.{if◌then◌else◌, ⊤}
use Rattle.lk_typed.specs.Typing.{Judged, Look, Named, Typing, plain_look}
use Rattle.lk_rules.specs.LayerLaws as laws
use Rattle.lk_rules.specs.Laws.{name_found}
use Rattle.lk_rules.proofs.Found.{Layer, expressions_follow_their_rules}

-- a layer of what was found, and of what is placed
abbrev FoundLayer : Type 0
FoundLayer = ExprForm-F DeclaratorForm ExprForm MemberDeclarator Specifier Declarator Judged Item Member Parameter Named

abbrev PlacedLayer : Type 0
PlacedLayer = ExprForm-F DeclaratorForm ExprForm MemberDeclarator Specifier Declarator (Placed Expr) Item Member Parameter (Placed TypeName)

-- ---- the parts stand alike

arguments_alike : (env : Env) (passes : List Passing) (arguments : List Expr) →
    placed_arguments expression env passes arguments ≡ placed_arguments expression (as_operand env) passes arguments
arguments_alike env passes [] = refl
arguments_alike env [] (a ∷ others) = ap (λ ps. (as_operand env, a) ∷ ps) (arguments_alike (behind env (expression a (as_operand env))) [] others)
arguments_alike env (Converted t ∷ passes) (a ∷ others) =
    ap (λ ps. (as_passed (Converted t) env, a) ∷ ps) (arguments_alike (behind env (expression a (as_passed (Converted t) env))) passes others)
arguments_alike env (NullFor t code ∷ passes) (a ∷ others) =
    ap (λ ps. (as_passed (NullFor t code) env, a) ∷ ps) (arguments_alike (behind env (expression a (as_passed (NullFor t code) env))) passes others)
arguments_alike env (Routine ∷ passes) (a ∷ others) =
    ap (λ ps. (as_passed Routine env, a) ∷ ps) (arguments_alike (behind env (expression a (as_passed Routine env))) passes others)
arguments_alike env (Size ∷ passes) (a ∷ others) =
    ap (λ ps. (as_passed Size env, a) ∷ ps) (arguments_alike (behind env (expression a (as_passed Size env))) passes others)

right_alike : (op : Option BinaryOperator) (left : Option Typing) (env : Env) → as_right op left env ≡ as_right op left (as_operand env)
right_alike None None env = refl
right_alike None (Some left) env = by_kind (is_function left.type) left.type env
  where
    by_kind : (b : Bool) (t : Ty) (env : Env) → (if b then as_operand env else converted_to env t) ≡ (if b then as_operand (as_operand env) else converted_to (as_operand env) t)
    by_kind true t env = refl
    by_kind false t env = refl
right_alike (Some o) left env = refl

cast_alike : (t : Option Ty) (env : Env) → as_cast t env ≡ as_cast t (as_operand env)
cast_alike None env = refl
cast_alike (Some t) env = refl

-- the forms whose part takes over what the expression stands as
abbrev Passed : (Expr → Type 0) → Layer → Type 0
Passed P (ExprForm-F.Comma left right) = ⊤
Passed P (ExprForm-F.Assign op left right) = ⊤
Passed P (ExprForm-F.Choice condition taken other) = ⊤
Passed P (ExprForm-F.Binary op left right) = ⊤
Passed P (ExprForm-F.Cast type operand) = ⊤
Passed P (ExprForm-F.Pre op operand) = ⊤
Passed P (ExprForm-F.Prefix op operand) = P operand
Passed P (ExprForm-F.SizeofExpr operand) = ⊤
Passed P (ExprForm-F.SizeofType type) = ⊤
Passed P (ExprForm-F.Index array inner) = ⊤
Passed P (ExprForm-F.Call function arguments) = ⊤
Passed P (ExprForm-F.Member object member) = ⊤
Passed P (ExprForm-F.Arrow pointer member) = ⊤
Passed P (ExprForm-F.Post op operand) = ⊤
Passed P (ExprForm-F.Word word) = ⊤
Passed P (ExprForm-F.Number kind number) = ⊤
Passed P (ExprForm-F.Char number) = ⊤
Passed P (ExprForm-F.Text bytes) = ⊤
Passed P (ExprForm-F.Paren inner) = P inner

-- ---- what is found alike

abbrev Alike : Judged → Judged → Type 0
Alike a b = (a.adds ≡ b.adds) × (a.look ≡ b.look)

abbrev IsAlike : Expr → Type 0
IsAlike e = (env : Env) → Alike (expression e env) (expression e (as_operand env))

look_alike : (env : Env) (found : FoundLayer) → look_of env found ≡ look_of (as_operand env) found
look_alike env (ExprForm-F.Comma left right) = refl
look_alike env (ExprForm-F.Assign op left right) = refl
look_alike env (ExprForm-F.Choice condition taken other) = refl
look_alike env (ExprForm-F.Binary op left right) = refl
look_alike env (ExprForm-F.Cast type operand) = refl
look_alike env (ExprForm-F.Pre op operand) = refl
look_alike env (ExprForm-F.Prefix op operand) = refl
look_alike env (ExprForm-F.SizeofExpr operand) = refl
look_alike env (ExprForm-F.SizeofType type) = refl
look_alike env (ExprForm-F.Index array inner) = refl
look_alike env (ExprForm-F.Call function arguments) = refl
look_alike env (ExprForm-F.Member object member) = refl
look_alike env (ExprForm-F.Arrow pointer member) = refl
look_alike env (ExprForm-F.Post op operand) = refl
look_alike env (ExprForm-F.Word word) = refl
look_alike env (ExprForm-F.Number kind number) = refl
look_alike env (ExprForm-F.Char number) = refl
look_alike env (ExprForm-F.Text bytes) = refl
look_alike env (ExprForm-F.Paren inner) = refl

by_placed : (env : Env) (n : ℕ) (form : Layer) → placed expression name_found env form ≡ placed expression name_found (as_operand env) form →
    Alike (judged expression name_found env n form) (judged expression name_found (as_operand env) n form)
by_placed env n form same = (
  ap (λ (p : PlacedLayer). additions_of (each_part (found_at expression) (found_at name_found) p)) same,
  ap (λ (p : PlacedLayer). look_of env (each_part (found_at expression) (found_at name_found) p)) same ∙
      look_alike env (found_in expression name_found (as_operand env) form),
)

abbrev both_nothing : Additions → Additions
both_nothing a = both a nothing

form_alike : (env : Env) (n : ℕ) (form : Layer) → Passed IsAlike form → Alike (judged expression name_found env n form) (judged expression name_found (as_operand env) n form)
form_alike env n (ExprForm-F.Comma left right) inside = by_placed env n (ExprForm-F.Comma left right) refl
form_alike env n (ExprForm-F.Assign op left right) inside =
    let found = expression left (as_operand env) in
    by_placed env n (ExprForm-F.Assign op left right) (ap (λ e. ExprForm-F.Assign op (as_operand env, left) (e, right)) (right_alike (operator_of op) found.typing (behind env found)))
form_alike env n (ExprForm-F.Choice condition taken other) inside = by_placed env n (ExprForm-F.Choice condition taken other) refl
form_alike env n (ExprForm-F.Binary op left right) inside = by_placed env n (ExprForm-F.Binary op left right) refl
form_alike env n (ExprForm-F.Cast type operand) inside =
    let found = name_found type (as_operand env) in
    by_placed env n (ExprForm-F.Cast type operand) (ap (λ e. ExprForm-F.Cast (as_operand env, type) (e, operand)) (cast_alike found.type (extend env found.adds)))
form_alike env n (ExprForm-F.Pre op operand) inside = by_placed env n (ExprForm-F.Pre op operand) refl
form_alike env n (ExprForm-F.Prefix op operand) inside =
    let one = inside (record env { role = role_in_prefix op env.role }) in
    let other = inside (record (as_operand env) { role = role_in_prefix op AsOperand }) in (
      ap (λ (a : Additions). both_nothing a) (one.0 ∙ sym other.0),
      ap (λ (l : Look). record (plain_look l.holds_sizeof) { routine = routine_behind op l.routine }) (one.1 ∙ sym other.1),
    )
form_alike env n (ExprForm-F.SizeofExpr operand) inside = by_placed env n (ExprForm-F.SizeofExpr operand) refl
form_alike env n (ExprForm-F.SizeofType type) inside = by_placed env n (ExprForm-F.SizeofType type) refl
form_alike env n (ExprForm-F.Index array inner) inside = by_placed env n (ExprForm-F.Index array inner) refl
form_alike env n (ExprForm-F.Call function arguments) inside =
    let found = expression function (as_function env) in
    by_placed env n (ExprForm-F.Call function arguments) (ap (λ ps. ExprForm-F.Call (as_function env, function) ps) (arguments_alike (behind env found) (passes_of found found.typing) arguments))
form_alike env n (ExprForm-F.Member object member) inside = by_placed env n (ExprForm-F.Member object member) refl
form_alike env n (ExprForm-F.Arrow pointer member) inside = by_placed env n (ExprForm-F.Arrow pointer member) refl
form_alike env n (ExprForm-F.Post op operand) inside = by_placed env n (ExprForm-F.Post op operand) refl
form_alike env n (ExprForm-F.Word word) inside = by_placed env n (ExprForm-F.Word word) refl
form_alike env n (ExprForm-F.Number kind number) inside = by_placed env n (ExprForm-F.Number kind number) refl
form_alike env n (ExprForm-F.Char number) inside = by_placed env n (ExprForm-F.Char number) refl
form_alike env n (ExprForm-F.Text bytes) inside = by_placed env n (ExprForm-F.Text bytes) refl
form_alike env n (ExprForm-F.Paren inner) inside =
    let both = inside (record env { role = role_in_parentheses env.role }) in
    (ap (λ (a : Additions). both_nothing a) both.0, ap (λ (l : Look). record (plain_look l.holds_sizeof) { word = l.word; routine = l.routine }) both.1)

-- ---- all expressions

abbrev Always : (A : Type 0) → A → Type 0
Always A a = ⊤

abbrev With : {A : Type 0} → (A → Type 0) → Type 0
With {A} Q = (a : A) × Q a

module _ (P : Expr → Type 0) where
  abbrev PassedIn : ExprForm → Type 0
  PassedIn form = Passed P (out-ExprForm form)

  inside : (y : ExprForm-F (With (Always DeclaratorForm)) (With PassedIn) (With (Always MemberDeclarator)) (With (Always Specifier)) (With (Always Declarator)) (With P) (With (Always Item)) (With (Always Member)) (With (Always Parameter)) (With (Always TypeName))) →
      Passed P (map-ExprForm (With (Always DeclaratorForm)) (With PassedIn) (With (Always MemberDeclarator)) (With (Always Specifier)) (With (Always Declarator)) (With P) (With (Always Item)) (With (Always Member)) (With (Always Parameter)) (With (Always TypeName)) DeclaratorForm ExprForm MemberDeclarator Specifier Declarator Expr Item Member Parameter TypeName (λ a. a.0) (λ a. a.0) (λ a. a.0) (λ a. a.0) (λ a. a.0) (λ a. a.0) (λ a. a.0) (λ a. a.0) (λ a. a.0) (λ a. a.0) y)
  inside (ExprForm-F.Comma left right) = tt
  inside (ExprForm-F.Assign op left right) = tt
  inside (ExprForm-F.Choice condition taken other) = tt
  inside (ExprForm-F.Binary op left right) = tt
  inside (ExprForm-F.Cast type operand) = tt
  inside (ExprForm-F.Pre op operand) = tt
  inside (ExprForm-F.Prefix op operand) = operand.1
  inside (ExprForm-F.SizeofExpr operand) = tt
  inside (ExprForm-F.SizeofType type) = tt
  inside (ExprForm-F.Index array inner) = tt
  inside (ExprForm-F.Call function arguments) = tt
  inside (ExprForm-F.Member object member) = tt
  inside (ExprForm-F.Arrow pointer member) = tt
  inside (ExprForm-F.Post op operand) = tt
  inside (ExprForm-F.Word word) = tt
  inside (ExprForm-F.Number kind number) = tt
  inside (ExprForm-F.Char number) = tt
  inside (ExprForm-F.Text bytes) = tt
  inside (ExprForm-F.Paren inner) = inner.1

  -- what holds of an expression wherever it holds of the part that takes over its role holds of all
  role_induction : ((e : Expr) → Passed P (out-ExprForm e.form) → P e) → (e : Expr) → P e
  role_induction step =
      ind-Expr (Always DeclaratorForm) PassedIn (Always MemberDeclarator) (Always Specifier) (Always Declarator) P (Always Item) (Always Member) (Always Parameter) (Always TypeName)
      (λ x y is. tt) (λ x y is. subst (Passed P) (is ∙ sym (out-roll-ExprForm x)) (inside y)) (λ x y is. tt) (λ x y is. tt) (λ x y is. tt)
      (λ x y is. step (roll-Expr x) (subst PassedIn (ap (λ x. x.form) is) y.form.1)) (λ x y is. tt) (λ x y is. tt) (λ x y is. tt) (λ x y is. tt)

alike : (e : Expr) → IsAlike e
alike = role_induction IsAlike by_form
  where
    by_form : (e : Expr) → Passed IsAlike (out-ExprForm e.form) → IsAlike e
    by_form e passed env =
        let both = form_alike env e.ordinal (out-ExprForm e.form) passed in (
          ap (λ (j : Judged). j.adds) (expressions_follow_their_rules e env) ∙ both.0 ∙ sym (ap (λ (j : Judged). j.adds) (expressions_follow_their_rules e (as_operand env))),
          ap (λ (j : Judged). j.look) (expressions_follow_their_rules e env) ∙ both.1 ∙ sym (ap (λ (j : Judged). j.look) (expressions_follow_their_rules e (as_operand env))),
        )

pub additions_in_any_role : laws.AdditionsInAnyRole
additions_in_any_role e env = (alike e env).0

pub looks_in_any_role : laws.LooksInAnyRole
looks_in_any_role e env = (alike e env).1
