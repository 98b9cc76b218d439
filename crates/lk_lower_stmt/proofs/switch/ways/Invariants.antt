use Rattle.std.proofs.Common.{◌≡◌, ◌++◌, drop}
use Rattle.std.specs.Prelude.{map}
use Rattle.lk_lower_expr.specs.Statements.{begins_at}
use Rattle.lk_lower_stmt.proofs.switch.ways.Given as goal

abbrev pub invariant-loop-one : goal.invariant-loop-one
invariant-loop-one l =
    map (λ one. begins_at one.ordinal l.labelled l.past) l.cases ≡ l.next.items ++ map (λ one. begins_at one.ordinal l.labelled l.past) (drop l.one-index l.cases)
