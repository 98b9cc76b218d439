use Rattle.std.proofs.Common.{◌≡◌, subst}
use Rattle.lk_tree.specs.declared.expression.DeclaratorForm.TheOpen.{ExprForm-F}
use Rattle.lk_typed.specs.Elaborated.{form_of}
use Rattle.lk_elab_expr.proofs.operators.prefix.Goals as goal

pub returns-in-Address-clause-one : goal.returns-in-Address-clause-one
returns-in-Address-clause-one c = λ p i form same own true_of tables leads folded.
    c.address.ensures p i (subst (λ op. form_of p ≡ ExprForm-F.Prefix op i) c.in-Address.is form) c.args.walk.now.types tables folded
