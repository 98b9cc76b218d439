use Rattle.std.proofs.Common.{◌∙◌, sym}
use Rattle.lk_elab_expr.proofs.operators.unary.Goals as goal

pub returns-in-Some-clause-one : goal.returns-in-Some-clause-one
returns-in-Some-clause-one c = c.promoted_operand.ensures.one c.args.op (sym c.promoting.ensures ∙ c.in-Some.is)
