use Rattle.std.proofs.Common.{◌≡◌, drop}
use Rattle.std.specs.Prelude.{map, fold}
use Rattle.lk_cells.specs.Frames.{given_by}
use Rattle.lk_values.specs.Causes.{◌or◌}
use Rattle.lk_cells.specs.Operands.{used, all_used}
use Rattle.lk_cells.proofs.operands.all_used.Given as goal

-- the causes of the operands that are left come after those so far
abbrev pub invariant-loop-point : goal.invariant-loop-point
invariant-loop-point l = fold (λ cause v. cause or used v) l.cause (map (given_by l.frame) (drop l.point-index l.points)) ≡ all_used (map (given_by l.frame) l.points)
