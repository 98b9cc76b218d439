use Rattle.std.proofs.Common.{◌+◌, ◌*◌}
use Rattle.lk_tree.specs.declared.expression.Expr.{size-Expr}
use Rattle.lk_elab_init.proofs.reached.+reached.Given as goal

abbrev pub decreases-reached_by : goal.decreases-reached_by
decreases-reached_by l = 10 * size-Expr l.e.now + 1

abbrev pub decreases-address_of : goal.decreases-address_of
decreases-address_of l = 10 * size-Expr l.e.now + 2

abbrev pub decreases-value_of : goal.decreases-value_of
decreases-value_of l = 10 * size-Expr l.e.now + 3

abbrev pub decreases-converted_address : goal.decreases-converted_address
decreases-converted_address l = 10 * size-Expr l.e.now + 4

abbrev pub decreases-moved_from : goal.decreases-moved_from
decreases-moved_from l = 10 * size-Expr l.pointer.now + 5

abbrev pub decreases-member_of : goal.decreases-member_of
decreases-member_of l = 10 * size-Expr l.object.now + 5

abbrev pub decreases-member_behind : goal.decreases-member_behind
decreases-member_behind l = 10 * size-Expr l.pointer.now + 5

abbrev pub decreases-prefixed : goal.decreases-prefixed
decreases-prefixed l = 10 * size-Expr l.operand.now + 5
