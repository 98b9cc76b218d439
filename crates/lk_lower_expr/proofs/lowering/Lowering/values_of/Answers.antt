use Rattle.std.proofs.Common.{ap}
use Rattle.std.specs.Prelude.{map}
use Rattle.lk_lower_expr.proofs.Operands.{from_index, moved_on}
use Rattle.lk_lower_expr.specs.Reads.{part_by}
use Rattle.lk_lower_expr.specs.Parts as parts
use Rattle.lk_lower_expr.proofs.lowering.Lowering.values_of.Goals as goal

pub loop-operand-preserved : goal.loop-operand-preserved
loop-operand-preserved c =
    moved_on _ _ _ _ _ _ _ c.loop-operand.invariant
    (ap (λ es. parts.values (map (part_by c.args.self.now) es)) (from_index c.args.operands.now c.loop-operand.operand-index c.operand-item.result c.loop-operand-test.true c.operand-item.is))
    c.in_ok-value_of.ensures c.in_ok-push.ensures.items
