use Rattle.std.proofs.Common.{ℕ, ◌<◌}
use Rattle.lk_point_types.specs.Each.{HasItsPlace, IsPointTyped}
use Rattle.lk_point_types.proofs.program.are_points_typed.Given as goal

abbrev pub invariant-loop-p : goal.invariant-loop-p
invariant-loop-p l = (p : ℕ) → p < l.p → HasItsPlace l.points p × IsPointTyped l.points p
