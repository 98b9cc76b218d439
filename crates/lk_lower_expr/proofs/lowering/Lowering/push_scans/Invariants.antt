use Rattle.std.proofs.Common.{◌≡◌, ◌++◌, drop}
use Rattle.lk_lower_expr.proofs.Texts.{texts}
use Rattle.lk_lower_expr.specs.Counts.{text_count}
use Rattle.lk_lower_expr.specs.Library.{scans}
use Rattle.lk_lower_expr.specs.Naming.{node_of}
use Rattle.lk_lower_expr.specs.Reads.{names_by}
use Rattle.lk_lower_expr.proofs.lowering.Lowering.push_scans.Given as goal

abbrev pub invariant-loop-operand : goal.invariant-loop-operand
invariant-loop-operand l = record {
  left : l.left ≡ text_count l.self.table.now (drop l.operand-index l.operands);
  read :
      l.initial.steps.items ++ scans (names_by l.self) (node_of l.e) 1 (texts l.self.table.now l.self.names.now (node_of l.e) l.operands) l.on ≡
      l.steps.items ++ scans (names_by l.self) (node_of l.e) l.k (texts l.self.table.now l.self.names.now (node_of l.e) (drop l.operand-index l.operands)) l.on;
}
