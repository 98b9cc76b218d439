-- Initialisers that are words, or other expressions.
use Rattle.std.proofs.Common.{◌≡◌, ◌∙◌, Some, refl, sym, ap}
use Rattle.std.proofs.lemmas.Option.{none-some}
use Rattle.lk_tree.specs.declared.expression.DeclaratorForm.TheOpen.{ExprForm-F}
use Rattle.lk_tree.specs.declared.expression.Expr.{Expr}
use Rattle.lk_tree.specs.declared.expression.ExprForm.{out-ExprForm}
use Rattle.lk_typed.specs.Env.{Env, as_operand, nothing}
use Rattle.lk_typed.specs.ExprRules.{judged}
use Rattle.lk_typed.specs.Expressions.{expr_adds, expr_word, expression, plainly}
use Rattle.lk_typed.specs.Ty.{Ty}
use Rattle.lk_typed.specs.Typing.{Judged}
use Rattle.lk_rules.proofs.Found.{Layer, expressions_follow_their_rules}
use Rattle.lk_rules.specs.Laws.{name_found}
use Rattle.lk_check_unit.proofs.Alone.{word_written}

-- an initialiser word adds nothing
pub word_adds : (e : Expr) (env : Env) (lock : Ty) → Some lock ≡ expr_word e env → expr_adds e env ≡ nothing
word_adds e env lock is = ap (λ (j : Judged). j.adds) (expressions_follow_their_rules e (as_operand env)) ∙ by (out-ExprForm e.form) is
  where
    by : (f : Layer) → Some lock ≡ word_written (plainly f) env → (judged expression name_found (as_operand env) e.ordinal f).adds ≡ nothing
    by (ExprForm-F.Comma left right) is = absurd (none-some lock (sym is))
    by (ExprForm-F.Assign op left right) is = absurd (none-some lock (sym is))
    by (ExprForm-F.Choice condition taken other) is = absurd (none-some lock (sym is))
    by (ExprForm-F.Binary op left right) is = absurd (none-some lock (sym is))
    by (ExprForm-F.Cast type operand) is = absurd (none-some lock (sym is))
    by (ExprForm-F.Pre op operand) is = absurd (none-some lock (sym is))
    by (ExprForm-F.Prefix op operand) is = absurd (none-some lock (sym is))
    by (ExprForm-F.SizeofExpr operand) is = absurd (none-some lock (sym is))
    by (ExprForm-F.SizeofType type) is = absurd (none-some lock (sym is))
    by (ExprForm-F.Index array inner) is = absurd (none-some lock (sym is))
    by (ExprForm-F.Call function arguments) is = absurd (none-some lock (sym is))
    by (ExprForm-F.Member object name) is = absurd (none-some lock (sym is))
    by (ExprForm-F.Arrow pointer name) is = absurd (none-some lock (sym is))
    by (ExprForm-F.Post op operand) is = absurd (none-some lock (sym is))
    by (ExprForm-F.Word name) is = refl
    by (ExprForm-F.Number kind number) is = absurd (none-some lock (sym is))
    by (ExprForm-F.Char number) is = absurd (none-some lock (sym is))
    by (ExprForm-F.Text bytes) is = absurd (none-some lock (sym is))
    by (ExprForm-F.Paren inner) is = absurd (none-some lock (sym is))
