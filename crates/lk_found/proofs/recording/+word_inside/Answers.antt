use Rattle.std.proofs.Common.{◌≡◌, ◌∙◌, subst}
use Rattle.std.specs.Option.{option_copied}
use Rattle.lk_tree.specs.declared.expression.DeclaratorForm.TheOpen.{ExprForm-F}
use Rattle.lk_tree.specs.declared.expression.ExprForm.TheVariants as form
use Rattle.lk_typed.specs.Expressions.{expression}
use Rattle.lk_typed.specs.Forms.{role_in_parentheses}
use Rattle.lk_found.specs.Uses.{found_by}
use Rattle.lk_found.proofs.Forms.{in_role, layer_is}
use Rattle.lk_found.proofs.Words.{found_in_any_role, paren_word, word_word}
use Rattle.lk_found.proofs.recording.+word_inside.Goals as goal

pub returns-in-Word : goal.returns-in-Word
returns-in-Word t c = λ env. word_word c.args.e.now env c.in-Word.name (layer_is c.args.e.now (form.Word c.in-Word.name) (ExprForm-F.Word c.in-Word.name) c.in-Word.is (form.rolls-Word c.in-Word.name))

pub returns-in-Paren : goal.returns-in-Paren
returns-in-Paren t c = λ env.
    let e = c.args.e.now in
    let inner = c.in-Paren.inner in
    let role = role_in_parentheses env.role in
    paren_word e inner env (layer_is e (form.Paren inner) (ExprForm-F.Paren inner) c.in-Paren.is (form.rolls-Paren inner)) ∙
    (subst (λ i. (expression i (in_role env role)).look.word ≡ found_by (in_role env role) (option_copied c.word_inside.result)) c.get.ensures (c.word_inside.ensures (in_role env role)) ∙
    found_in_any_role env (option_copied c.word_inside.result))
