use Rattle.std.proofs.Common.{◌+◌, ◌*◌}
use Rattle.lk_typed.specs.declared.expression.TypedExpr.{size-TypedExpr}
use Rattle.lk_lower_expr.proofs.lowering.Lowering.+owns.Given as goal

abbrev pub decreases-own_steps : goal.decreases-own_steps
decreases-own_steps l = 3 * size-TypedExpr l.e.now

abbrev pub decreases-load_steps : goal.decreases-load_steps
decreases-load_steps l = 3 * size-TypedExpr l.place.now + 2

abbrev pub decreases-convert_steps : goal.decreases-convert_steps
decreases-convert_steps l = 3 * size-TypedExpr l.value.now + 2

abbrev pub decreases-decay_steps : goal.decreases-decay_steps
decreases-decay_steps l = 3 * size-TypedExpr l.array.now + 2

abbrev pub decreases-steps_at : goal.decreases-steps_at
decreases-steps_at l = 3 * size-TypedExpr l.inner.now + 1
