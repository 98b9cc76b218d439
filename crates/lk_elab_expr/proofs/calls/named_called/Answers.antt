use Rattle.std.proofs.Common.{◌≡◌, ap, subst}
use Rattle.std.proofs.lemmas.Result.{IfOk-weaker}
use Rattle.lk_tree.specs.declared.expression.Expr.{Expr}
use Rattle.lk_typed.specs.Calls.{library_called}
use Rattle.lk_typed.specs.Expressions.{expression}
use Rattle.lk_check_expr.specs.Functions.{row_of}
use Rattle.lk_elab_expr.proofs.CalledWays.{is_library_call}
use Rattle.lk_elab_expr.proofs.Within.{told_of}
use Rattle.lk_elab_expr.proofs.calls.named_called.Goals as goal

pub returns-in-Ok-Some : goal.returns-in-Ok-Some
returns-in-Ok-Some c = λ at_end p f true_p same told.
    is_library_call c.args.walk.now p.0 f c.in-Ok-Some.known
    (subst (λ o. library_called (expression f.1 f.0).look.word ≡ row_of o) c.in-Ok-Some.field-0-is (c.in-Ok-Some.ensures f (ap (λ (e : Expr). e.ordinal) same) (told_of at_end c.args.walk.now f told)))

pub returns-in-Ok-None : goal.returns-in-Ok-None
returns-in-Ok-None c = IfOk-weaker c.other_called.result _ _ (λ way calls at_end p f true_p same told.
    calls at_end p f true_p same told
    (subst (λ o. library_called (expression f.1 f.0).look.word ≡ row_of o) c.in-Ok-None.field-0-is (c.in-Ok-None.ensures f (ap (λ (e : Expr). e.ordinal) same) (told_of at_end c.args.walk.now f told)))) c.other_called.ensures
