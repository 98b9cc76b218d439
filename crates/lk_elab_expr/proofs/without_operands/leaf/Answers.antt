use Rattle.std.proofs.Common.{rules, ◌≡◌, ◌∙◌, ap, subst, to_z, of_z}
use Rattle.std.proofs.lemmas.Result.{IfOk-weaker}
use Rattle.std.specs.Int.{w32, w128}
use Rattle.lk_tree.specs.declared.expression.DeclaratorForm.TheOpen.{ExprForm-F}
use Rattle.lk_tree.specs.declared.expression.ExprForm.TheVariants as tree
use Rattle.lk_typed.specs.Elaborated.{InPlace}
use Rattle.lk_typed.specs.Elaborated.IsTyped.{number, character, text}
use Rattle.lk_typed.specs.declared.expression.Callee.TheOpen.{TypedForm-F}
use Rattle.lk_typed.specs.declared.expression.TypedForm.TheVariants as form
use Rattle.lk_elaborator.specs.Standing.{MakesOwn}
use Rattle.lk_elab_expr.proofs.FormsAt.{form_at, made_of}
use Rattle.lk_elab_expr.proofs.without_operands.leaf.Goals as goal

pub returns-in-Number : goal.returns-in-Number
returns-in-Number c = λ env true_of tables leads folded t makes.
    let exact : to_z w128 (of_z w128 c.from.result) ≡ c.from.result = search rules in
    let p : InPlace = (env, c.args.e.now) in
    number (form_at p (tree.Number c.in-Number.field-0 c.in-Number.n) (ExprForm-F.Number c.in-Number.field-0 c.in-Number.n) c.in-Number.is (tree.rolls-Number c.in-Number.field-0 c.in-Number.n))
    (subst (λ z. MakesOwn tables p (TypedForm-F.Number z) t) (exact ∙ c.from.ensures) (subst (λ form. MakesOwn tables p form t) (made_of (form.Number _) (TypedForm-F.Number _) (form.rolls-Number _)) makes))

pub returns-in-Char : goal.returns-in-Char
returns-in-Char c = λ env true_of tables leads folded t makes.
    let exact : to_z w128 (of_z w128 c.from-in-Char.result) ≡ c.from-in-Char.result = search rules in
    let narrow : to_z w32 (of_z w32 c.in-Char.n) ≡ c.in-Char.n = search rules in
    let p : InPlace = (env, c.args.e.now) in
    character (form_at p (tree.Char c.in-Char.n) (ExprForm-F.Char c.in-Char.n) c.in-Char.is (tree.rolls-Char c.in-Char.n))
    (subst (λ z. MakesOwn tables p (TypedForm-F.Number z) t) (exact ∙ c.from-in-Char.ensures ∙ narrow) (subst (λ form. MakesOwn tables p form t) (made_of (form.Number _) (TypedForm-F.Number _) (form.rolls-Number _)) makes))

pub returns-in-Text : goal.returns-in-Text
returns-in-Text c = IfOk-weaker c.text.result _ _ (λ made is env true_of tables leads folded t makes.
    let p : InPlace = (env, c.args.e.now) in
    text (form_at p (tree.Text c.in-Text.bytes) (ExprForm-F.Text c.in-Text.bytes) c.in-Text.is (tree.rolls-Text c.in-Text.bytes))
    (subst (λ form. MakesOwn tables p form t) (is ∙ ap (λ bytes. TypedForm-F.Text bytes) c.list.ensures) makes)) c.text.ensures
