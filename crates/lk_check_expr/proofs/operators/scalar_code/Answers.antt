use Rattle.lk_typed.proofs.LeastCodes.{told_operand}
use Rattle.lk_check_expr.proofs.operators.scalar_code.Goals as goal

pub returns : goal.returns
returns c = told_operand c.is_lock-lock.ensures c.is_scalar-taken.ensures c.operand_code.ensures
