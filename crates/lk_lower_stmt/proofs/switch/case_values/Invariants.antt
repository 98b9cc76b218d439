use Rattle.std.proofs.Common.{◌≡◌, ◌++◌, drop}
use Rattle.std.specs.Prelude.{map}
use Rattle.lk_lower_expr.specs.Statements.{case_value}
use Rattle.lk_lower_stmt.proofs.switch.case_values.Given as goal

abbrev pub invariant-loop-one : goal.invariant-loop-one
invariant-loop-one l = map case_value l.cases ≡ l.values.items ++ map case_value (drop l.one-index l.cases)
