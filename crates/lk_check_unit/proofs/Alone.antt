-- Expressions that are a name or a text alone.
use Rattle.std.proofs.Common.{◌≡◌, ◌∙◌, ℕ, List, Option, None, sym, ap}
use Rattle.lk_tree.specs.declared.expression.Expr.{Expr}
use Rattle.lk_typed.specs.Env.{Env, look_up}
use Rattle.lk_typed.specs.Expressions.{Plainly, AWord, AText, AnotherForm, expr_word, plainly}
use Rattle.lk_typed.specs.Ty.{Ty}
use Rattle.lk_check_unit.specs.Writing.{word_given}
use Rattle.lk_tree.specs.declared.expression.DeclaratorForm.TheOpen.{ExprForm-F}
use Rattle.lk_tree.specs.declared.expression.ExprForm.{ExprForm, out-ExprForm, out-roll-ExprForm}
use Rattle.lk_tree.specs.declared.expression.ExprForm.TheVariants as form

pub a_word : (f : ExprForm) (name : List ℕ) → f ≡ form.Word name → out-ExprForm f ≡ ExprForm-F.Word name
a_word f name is = ap out-ExprForm (is ∙ sym (form.rolls-Word name)) ∙ out-roll-ExprForm (ExprForm-F.Word name)

pub a_text : (f : ExprForm) (bytes : List ℕ) → f ≡ form.Text bytes → out-ExprForm f ≡ ExprForm-F.Text bytes
a_text f bytes is = ap out-ExprForm (is ∙ sym (form.rolls-Text bytes)) ∙ out-roll-ExprForm (ExprForm-F.Text bytes)

abbrev pub word_written : Plainly → Env → Option Ty
word_written (AWord name) env = word_given (look_up env name)
word_written (AText bytes) env = None
word_written AnotherForm env = None

-- what a name alone is as an initialiser word
pub word_is : (e : Expr) (name : List ℕ) (env : Env) → e.form ≡ form.Word name → word_given (look_up env name) ≡ expr_word e env
word_is e name env is = ap (λ f. word_written (plainly f) env) (sym (a_word e.form name is))
