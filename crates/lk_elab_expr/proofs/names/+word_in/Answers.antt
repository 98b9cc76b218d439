use Rattle.std.proofs.Common.{◌≡◌, ◌∙◌, subst}
use Rattle.std.specs.Option.{option_map}
use Rattle.std.proofs.lemmas.Option.{IfSome_then}
use Rattle.lk_typed.specs.Expressions.{expression}
use Rattle.lk_typed.specs.Forms.{role_in_parentheses}
use Rattle.lk_found.specs.Uses.{found_by}
use Rattle.lk_elab_expr.specs.CalledWords.{HasWord}
use Rattle.lk_elab_expr.proofs.CalledWords.{found_as, has_word, has_word_inside, word_at, word_inside}
use Rattle.lk_elab_expr.proofs.names.+word_in.Goals as goal

pub returns-in-Word-clause-word : goal.returns-in-Word-clause-word
returns-in-Word-clause-word t c = λ env. word_at env c.args.e.now c.in-Word.name c.in-Word.is

pub returns-in-Word-clause-stands : goal.returns-in-Word-clause-stands
returns-in-Word-clause-stands t c = has_word c.args.e.now c.in-Word.name c.in-Word.is

pub returns-in-Paren-clause-word : goal.returns-in-Paren-clause-word
returns-in-Paren-clause-word t c = λ env.
    let role = role_in_parentheses env.role in
    let env' = record env { role = role } in
    let name = option_map (λ w. w.name.now) c.word_in.result in
    word_inside env c.args.e.now c.in-Paren.inner c.in-Paren.is ∙ subst (λ i. (expression i env').look.word ≡ found_by env' name) c.get.ensures (c.word_in.ensures.word env') ∙ found_as env role name

pub returns-in-Paren-clause-stands : goal.returns-in-Paren-clause-stands
returns-in-Paren-clause-stands t c =
    IfSome_then c.word_in.result c.word_in.ensures.stands (λ w has.
    has_word_inside c.args.e.now c.in-Paren.inner w.name.now w.ordinal c.in-Paren.is (subst (λ i. HasWord i w.name.now w.ordinal) c.get.ensures has))
