use Rattle.std.proofs.Common.{arith, sym, ap, ◌∙◌, ◌≡◌, ◌+◌, ◌-◌, ◌++◌, drop}
use Rattle.lk_lower_expr.proofs.Operands.{moved_on}
use Rattle.lk_lower_expr.proofs.Texts.{left_at, read_at, read_on, texts_left_at}
use Rattle.lk_lower_expr.specs.Counts.{text_count}
use Rattle.lk_lower_expr.specs.Library.{scans}
use Rattle.lk_lower_expr.specs.Naming.{node_of}
use Rattle.lk_lower_expr.specs.Reads.{names_by}
use Rattle.lk_lower_expr.proofs.lowering.Lowering.push_scans.Goals as goal

pub loop-operand-preserved-then-not-is_text : goal.loop-operand-preserved-then-not-is_text
loop-operand-preserved-then-not-is_text c = record {
  left = c.loop-operand.invariant.left ∙ left_at c.args.self.now.table.now c.args.self.now.names.now (node_of c.args.e.now) _ _ _ c.loop-operand-test.true c.operand-item.is (sym c.is_text.ensures ∙ c.if-not-is_text.true);
  read = c.loop-operand.invariant.read ∙
      ap (λ ts. c.loop-operand.steps.items ++ scans (names_by c.args.self.now) (node_of c.args.e.now) c.loop-operand.k ts c.args.on)
      (texts_left_at c.args.self.now.table.now c.args.self.now.names.now (node_of c.args.e.now) _ _ _ c.loop-operand-test.true c.operand-item.is (sym c.is_text.ensures ∙ c.if-not-is_text.true));
}

pub overflow_sub-left : goal.overflow_sub-left
overflow_sub-left c = omega (arith, c.loop-operand.invariant.left, read_at c.args.self.now.table.now c.args.self.now.names.now (node_of c.args.e.now) _ _ _ c.loop-operand-test.true c.operand-item.is (sym c.is_text.ensures ∙ c.if-not-is_text.false))

pub loop-operand-preserved : goal.loop-operand-preserved
loop-operand-preserved c =
    let is = sym c.is_text.ensures ∙ c.if-not-is_text.false in
    let one = read_at c.args.self.now.table.now c.args.self.now.names.now (node_of c.args.e.now) _ _ _ c.loop-operand-test.true c.operand-item.is is in
    let left : c.loop-operand.left - 1 ≡ text_count c.args.self.now.table.now (drop (c.loop-operand.operand-index + 1) c.args.operands.now) = omega (arith, c.loop-operand.invariant.left, one) in
    record {
      left = left;
      read = moved_on _ _ _ _ _ _ _ c.loop-operand.invariant.read
          (read_on c.args.self.now.table.now c.args.self.now.names.now (node_of c.args.e.now) c.args.operands.now c.loop-operand.operand-index c.operand-item.result c.loop-operand.k c.args.on c.in_ok-k.k
          (c.loop-operand.left - 1) c.in_ok-next.next c.loop-operand-test.true c.operand-item.is is c.in_ok-k.ensures left c.in_ok-next.ensures)
          c.in_ok-scan_step.ensures c.in_ok-push.ensures.items;
    }
