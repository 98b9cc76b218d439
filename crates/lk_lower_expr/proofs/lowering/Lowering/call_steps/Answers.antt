use Rattle.std.proofs.Common.{rules}
use Rattle.lk_lower_expr.proofs.Operands.{pointer_called}
use Rattle.lk_lower_expr.specs.Reads.{names_by}
use Rattle.lk_lower_expr.proofs.lowering.Lowering.call_steps.Goals as goal

pub returns-in_ok-a-in-Pointer : goal.returns-in_ok-a-in-Pointer
returns-in_ok-a-in-Pointer c = rw (pointer_called (names_by c.args.self.now) _ _ c.in-Pointer.is) (search rules)
