use Rattle.std.proofs.Common.{◌∙◌, sym, subst}
use Rattle.std.proofs.lemmas.Option.{IfSome_then}
use Rattle.lk_elab_expr.specs.CalledWords.{HasRoutine}
use Rattle.lk_elab_expr.proofs.CalledWords.{has_routine, has_routine_behind, has_routine_inside}
use Rattle.lk_elab_expr.proofs.library.+routine_word.Goals as goal

pub returns-in-Word : goal.returns-in-Word
returns-in-Word t c = has_routine c.args.e.now

pub returns-in-Paren : goal.returns-in-Paren
returns-in-Paren t c =
    IfSome_then c.routine_word.result c.routine_word.ensures (λ n has. has_routine_inside c.args.e.now c.in-Paren.inner n c.in-Paren.is (subst (λ i. HasRoutine i n) c.get.ensures has))

pub returns-then-is_address : goal.returns-then-is_address
returns-then-is_address t c =
    IfSome_then c.routine_word-then-is_address.result c.routine_word-then-is_address.ensures
    (λ n has. has_routine_behind c.args.e.now c.in-Prefix.inner c.in-Prefix.op n (sym c.is_address.ensures ∙ c.if-is_address.true) c.in-Prefix.is (subst (λ i. HasRoutine i n) c.get-then-is_address.ensures has))
