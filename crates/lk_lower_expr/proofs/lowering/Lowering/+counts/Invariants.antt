use Rattle.std.proofs.Common.{◌+◌, ◌*◌}
use Rattle.lk_typed.specs.declared.expression.TypedExpr.{size-TypedExpr}
use Rattle.lk_lower_expr.proofs.lowering.Lowering.+counts.Given as goal

abbrev pub decreases-count_of : goal.decreases-count_of
decreases-count_of l = 2 * size-TypedExpr l.e.now

abbrev pub decreases-count_at : goal.decreases-count_at
decreases-count_at l = 2 * size-TypedExpr l.inner.now + 1
