use Rattle.std.proofs.Common.{ℕ, ◌<◌}
use Rattle.lk_point_types.specs.Each.{IsArgumentAt}
use Rattle.lk_point_types.proofs.program.are_arguments_typed.Given as goal

abbrev pub invariant-loop-r : goal.invariant-loop-r
invariant-loop-r l = (r : ℕ) → r < l.r → IsArgumentAt l.points r
