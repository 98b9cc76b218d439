use Rattle.std.proofs.Common.{◌≡◌, drop, ◌++◌}
use Rattle.std.specs.Prelude.{map}
use Rattle.std.specs.Option.{option_map}
use Rattle.lk_cells.specs.Frames.{given_by}
use Rattle.lk_cells.specs.Operands.{all_given}
use Rattle.lk_cells.proofs.operands.all_given.Given as goal

-- the values so far, and then those of the operands that are left
abbrev pub invariant-loop-point : goal.invariant-loop-point
invariant-loop-point l = option_map (λ more. l.values.items ++ more) (all_given (map (given_by l.frame) (drop l.point-index l.points))) ≡ all_given (map (given_by l.frame) l.points)
