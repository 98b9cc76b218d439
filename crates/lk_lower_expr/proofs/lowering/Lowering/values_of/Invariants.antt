use Rattle.std.proofs.Common.{◌≡◌, ◌++◌, drop}
use Rattle.std.specs.Prelude.{map}
use Rattle.lk_lower_expr.specs.Reads.{part_by}
use Rattle.lk_lower_expr.specs.Parts as parts
use Rattle.lk_lower_expr.proofs.lowering.Lowering.values_of.Given as goal

abbrev pub invariant-loop-operand : goal.invariant-loop-operand
invariant-loop-operand l =
    parts.values (map (part_by l.self) l.operands) ≡ l.values.items ++ parts.values (map (part_by l.self) (drop l.operand-index l.operands))
