use Rattle.std.proofs.Common.{◌≡◌, ◌+◌, drop}
use Rattle.lk_lower_expr.specs.Counts.{text_count}
use Rattle.lk_lower_expr.proofs.value.text_count.Given as goal

abbrev pub invariant-loop-arg : goal.invariant-loop-arg
invariant-loop-arg l = text_count l.table l.args ≡ l.count + text_count l.table (drop l.arg-index l.args)
