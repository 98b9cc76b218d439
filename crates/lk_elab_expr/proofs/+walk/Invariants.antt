use Rattle.std.proofs.Common.{◌+◌, ◌*◌, max}
use denote.Param.Weighed.{most}
use Rattle.lk_tree.specs.declared.expression.Expr.{size-Expr}
use Rattle.lk_elab_expr.specs.PassedArguments.{ArePassedSoFar}
use Rattle.lk_elab_expr.proofs.+walk.Given as goal

abbrev pub decreases-expressions::form_of : goal.decreases-expressions::form_of
decreases-expressions::form_of l = 10 * size-Expr l.e.now

abbrev pub decreases-expressions::expression_in : goal.decreases-expressions::expression_in
decreases-expressions::expression_in l = 10 * size-Expr l.e.now + 1

abbrev pub decreases-expressions::part_node : goal.decreases-expressions::part_node
decreases-expressions::part_node l = 10 * size-Expr l.e.now + 2

abbrev pub decreases-expressions::part_of : goal.decreases-expressions::part_of
decreases-expressions::part_of l = 10 * size-Expr l.e.now + 3

abbrev pub decreases-arguments::put_argument : goal.decreases-arguments::put_argument
decreases-arguments::put_argument l = 10 * size-Expr l.e.now + 4

abbrev pub decreases-expressions::with_one : goal.decreases-expressions::with_one
decreases-expressions::with_one l = 10 * size-Expr l.operand.now + 5

abbrev pub decreases-allocations::counted : goal.decreases-allocations::counted
decreases-allocations::counted l = 10 * size-Expr l.e.now + 4

abbrev pub decreases-expressions::with_two : goal.decreases-expressions::with_two
decreases-expressions::with_two l = 10 * max (size-Expr l.left.now) (size-Expr l.right.now) + 6

abbrev pub decreases-expressions::with_three : goal.decreases-expressions::with_three
decreases-expressions::with_three l = 10 * max (size-Expr l.condition.now) (max (size-Expr l.taken.now) (size-Expr l.other.now)) + 6

abbrev pub decreases-allocations::counted_by_factor : goal.decreases-allocations::counted_by_factor
decreases-allocations::counted_by_factor l = 10 * size-Expr l.e.now + 5

abbrev pub decreases-allocations::count_of : goal.decreases-allocations::count_of
decreases-allocations::count_of l = 10 * size-Expr l.e.now + 6

abbrev pub decreases-arguments::passed_arguments : goal.decreases-arguments::passed_arguments
decreases-arguments::passed_arguments l = 10 * goal.size-arguments::passed_arguments l + 5

abbrev pub decreases-allocations::allocate : goal.decreases-allocations::allocate
decreases-allocations::allocate l = 10 * goal.size-allocations::allocate l + 7

abbrev pub decreases-calls::call_named : goal.decreases-calls::call_named
decreases-calls::call_named l = 10 * goal.size-calls::call_named l + 6

abbrev pub decreases-calls::call_create : goal.decreases-calls::call_create
decreases-calls::call_create l = 10 * goal.size-calls::call_create l + 6

abbrev pub decreases-calls::call_pointed : goal.decreases-calls::call_pointed
decreases-calls::call_pointed l = 10 * max (size-Expr l.function.now) (most (λ x. size-Expr x) l.arguments.now) + 6

abbrev pub decreases-calls::call : goal.decreases-calls::call
decreases-calls::call l = 10 * max (size-Expr l.function.now) (most (λ x. size-Expr x) l.arguments.now) + 9

abbrev pub decreases-expressions::of_one : goal.decreases-expressions::of_one
decreases-expressions::of_one l = 10 * size-Expr l.operand.now + 4

abbrev pub decreases-expressions::of_two : goal.decreases-expressions::of_two
decreases-expressions::of_two l = 10 * max (size-Expr l.left.now) (size-Expr l.right.now) + 5

abbrev pub decreases-expressions::of_three : goal.decreases-expressions::of_three
decreases-expressions::of_three l = 10 * max (size-Expr l.condition.now) (max (size-Expr l.taken.now) (size-Expr l.other.now)) + 5

abbrev pub decreases-calls::pointer_of : goal.decreases-calls::pointer_of
decreases-calls::pointer_of l = 10 * size-Expr l.function.now + 4

abbrev pub decreases-calls::call_so : goal.decreases-calls::call_so
decreases-calls::call_so l = 10 * max (size-Expr l.function.now) (most (λ x. size-Expr x) l.arguments.now) + 8

abbrev pub invariant-arguments::passed_arguments-loop-index : goal.invariant-arguments::passed_arguments-loop-index
invariant-arguments::passed_arguments-loop-index l = ArePassedSoFar l.fn.walk l.walk l.function l.arguments l.folded l.index l.out

abbrev pub decreases-arguments::put_part : goal.decreases-arguments::put_part
decreases-arguments::put_part l = 10 * size-Expr l.e.now + 3
