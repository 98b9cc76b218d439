use Rattle.std.proofs.Common.{◌≡◌, drop}
use Rattle.lk_lower_expr.specs.Cells.{inside_all}
use Rattle.lk_lower_expr.proofs.cells.cell_node.Given as goal

abbrev pub invariant-loop-step : goal.invariant-loop-step
invariant-loop-step l = inside_all l.types l.of (drop l.step-index l.path) ≡ inside_all l.types (record { ty = l.ty; number = 0 }) l.path
