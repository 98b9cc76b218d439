-- The name that an expression is, perhaps in parentheses, by its form.
use Rattle.std.proofs.Common.{◌≡◌, ◌∙◌, Bool, true, false, Option, Some, None, refl, ap}
use Rattle.std.proofs.lemmas.Bool.{false≢true}
use Rattle.lk_tree.specs.declared.expression.DeclaratorForm.TheOpen.{ExprForm-F}
use Rattle.lk_tree.specs.declared.expression.Expr.{Expr}
use Rattle.lk_tree.specs.declared.expression.ExprForm.{out-ExprForm}
use Rattle.lk_typed.specs.Env.{Env, Name, look_up}
use Rattle.lk_typed.specs.ExprRules.{judged, look_of}
use Rattle.lk_typed.specs.Expressions.{expression}
use Rattle.lk_typed.specs.Forms.{role_in_parentheses}
use Rattle.lk_typed.specs.Typing.{Judged}
use Rattle.lk_rules.proofs.Found.{expressions_follow_their_rules}
use Rattle.lk_rules.specs.Laws.{name_found}
use Rattle.lk_found.specs.Uses.{found_by}
use Rattle.lk_found.proofs.Forms.{in_role, Layer, form_in}

-- whether it is neither a name nor in parentheses
abbrev pub is_silent : Layer → Bool
is_silent (ExprForm-F.Comma left right) = true
is_silent (ExprForm-F.Assign op left right) = true
is_silent (ExprForm-F.Choice condition taken other) = true
is_silent (ExprForm-F.Binary op left right) = true
is_silent (ExprForm-F.Cast type operand) = true
is_silent (ExprForm-F.Pre op operand) = true
is_silent (ExprForm-F.Prefix op operand) = true
is_silent (ExprForm-F.SizeofExpr operand) = true
is_silent (ExprForm-F.SizeofType type) = true
is_silent (ExprForm-F.Index array inner) = true
is_silent (ExprForm-F.Call function arguments) = true
is_silent (ExprForm-F.Member object member) = true
is_silent (ExprForm-F.Arrow pointer member) = true
is_silent (ExprForm-F.Post op operand) = true
is_silent (ExprForm-F.Word name) = false
is_silent (ExprForm-F.Number kind number) = true
is_silent (ExprForm-F.Char number) = true
is_silent (ExprForm-F.Text bytes) = true
is_silent (ExprForm-F.Paren inner) = false

looked : (e : Expr) (env : Env) (layer : Layer) → out-ExprForm e.form ≡ layer → (expression e env).look.word ≡ (look_of env (form_in env layer)).word
looked e env layer is =
    ap (λ (x : Judged). x.look.word) (expressions_follow_their_rules e env) ∙ ap (λ l. (judged expression name_found env e.ordinal l).look.word) is

silent : (env : Env) (layer : Layer) → is_silent layer ≡ true → (look_of env (form_in env layer)).word ≡ None
silent env (ExprForm-F.Comma left right) is = refl
silent env (ExprForm-F.Assign op left right) is = refl
silent env (ExprForm-F.Choice condition taken other) is = refl
silent env (ExprForm-F.Binary op left right) is = refl
silent env (ExprForm-F.Cast type operand) is = refl
silent env (ExprForm-F.Pre op operand) is = refl
silent env (ExprForm-F.Prefix op operand) is = refl
silent env (ExprForm-F.SizeofExpr operand) is = refl
silent env (ExprForm-F.SizeofType type) is = refl
silent env (ExprForm-F.Index array inner) is = refl
silent env (ExprForm-F.Call function arguments) is = refl
silent env (ExprForm-F.Member object member) is = refl
silent env (ExprForm-F.Arrow pointer member) is = refl
silent env (ExprForm-F.Post op operand) is = refl
silent env (ExprForm-F.Word name) is = absurd (false≢true is)
silent env (ExprForm-F.Number kind number) is = refl
silent env (ExprForm-F.Char number) is = refl
silent env (ExprForm-F.Text bytes) is = refl
silent env (ExprForm-F.Paren inner) is = absurd (false≢true is)

pub silent_word : (e : Expr) (env : Env) → is_silent (out-ExprForm e.form) ≡ true → (expression e env).look.word ≡ None
silent_word e env is = looked e env (out-ExprForm e.form) refl ∙ silent env (out-ExprForm e.form) is

pub word_word : (e : Expr) (env : Env) (name : Name) → out-ExprForm e.form ≡ ExprForm-F.Word name → (expression e env).look.word ≡ look_up env name
word_word e env name is = looked e env (ExprForm-F.Word name) is

pub paren_word : (e inner : Expr) (env : Env) → out-ExprForm e.form ≡ ExprForm-F.Paren inner → (expression e env).look.word ≡ (expression inner (in_role env (role_in_parentheses env.role))).look.word
paren_word e inner env is = looked e env (ExprForm-F.Paren inner) is

-- a name stands for the same whatever it stands as
pub found_in_any_role : (env : Env) (o : Option Name) → found_by (in_role env (role_in_parentheses env.role)) o ≡ found_by env o
found_in_any_role env None = refl
found_in_any_role env (Some name) = refl
