-- An expression, by its form.
use Rattle.std.proofs.Common.{◌≡◌, ◌∙◌, sym, ap}
use Rattle.lk_tree.specs.declared.expression.Expr.{Expr}
use Rattle.lk_tree.specs.declared.expression.ExprForm.{ExprForm, out-ExprForm, roll-ExprForm, out-roll-ExprForm}
use Rattle.lk_typed.specs.Env.{Env, Role}
use Rattle.lk_tree.specs.declared.expression.DeclaratorForm.TheOpen.{ExprForm-F}
use Rattle.lk_tree.specs.declared.expression.DeclaratorForm.{DeclaratorForm}
use Rattle.lk_tree.specs.declared.expression.Declarator.{Declarator}
use Rattle.lk_tree.specs.declared.expression.Item.{Item}
use Rattle.lk_tree.specs.declared.expression.Member.{Member}
use Rattle.lk_tree.specs.declared.expression.MemberDeclarator.{MemberDeclarator}
use Rattle.lk_tree.specs.declared.expression.Parameter.{Parameter}
use Rattle.lk_tree.specs.declared.expression.Specifier.{Specifier}
use Rattle.lk_tree.specs.declared.expression.TypeName.{TypeName}
use Rattle.lk_typed.specs.ExprRules.{found_in}
use Rattle.lk_typed.specs.Expressions.{expression}
use Rattle.lk_rules.specs.Laws.{name_found}
use Rattle.lk_found.specs.Findings.{JudgedForm}

abbrev pub Layer : Type 0
Layer = ExprForm-F DeclaratorForm ExprForm MemberDeclarator Specifier Declarator Expr Item Member Parameter TypeName

abbrev pub form_in : Env → Layer → JudgedForm
form_in env layer = found_in expression name_found env layer

-- an expression of a form is of its layer
pub layer_is : (e : Expr) (f : ExprForm) (layer : Layer) → e.form ≡ f → roll-ExprForm layer ≡ f → out-ExprForm e.form ≡ layer
layer_is e f layer is rolls = ap out-ExprForm (is ∙ sym rolls) ∙ out-roll-ExprForm layer

-- the environment of a part that stands as something else
abbrev pub in_role : Env → Role → Env
in_role env role = record env { role = role }
