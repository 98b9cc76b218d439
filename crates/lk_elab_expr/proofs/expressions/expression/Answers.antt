use Rattle.std.proofs.Common.{sym, subst}
use Rattle.std.proofs.lemmas.Result.{IfOk-weaker}
use Rattle.lk_typed.specs.Elaborated.{IsTyped}
use Rattle.lk_elaborator.specs.Standing.{StandsAs}
use Rattle.lk_elab_expr.proofs.expressions.expression.Goals as goal

pub returns-clause-made : goal.returns-clause-made
returns-clause-made c = IfOk-weaker c.expression_in.result _ _ (λ t makes at_end env told tables leads.
    subst (λ folded. IsTyped tables folded (env, c.args.e.now) t) c.operand.ensures.folded
    (makes at_end env told (subst (λ r. StandsAs c.args.walk.now.types r env.role) (sym c.operand.ensures.role) tt) tables leads)) c.expression_in.ensures.made
