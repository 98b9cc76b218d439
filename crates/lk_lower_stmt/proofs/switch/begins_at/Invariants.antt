use Rattle.std.proofs.Common.{◌≡◌, drop}
use Rattle.lk_lower_expr.specs.Statements.{begins_at}
use Rattle.lk_lower_stmt.proofs.switch.begins_at.Given as goal

abbrev pub invariant-loop-one : goal.invariant-loop-one
invariant-loop-one l = begins_at l.node l.labelled l.other ≡ begins_at l.node (drop l.one-index l.labelled) l.other
