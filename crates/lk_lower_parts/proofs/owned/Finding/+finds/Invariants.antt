use Rattle.std.proofs.Common.{◌≡◌, ◌++◌, ◌+◌, ◌*◌, drop, max}
use Rattle.std.specs.Prelude.{map}
use Rattle.lk_lower_expr.specs.Owned.{all_of}
use Rattle.lk_lower_parts.specs.Found.{all_found, owned_here}
use Rattle.lk_typed.specs.declared.expression.TypedExpr.{size-TypedExpr}
use Rattle.lk_lower_parts.proofs.owned.Finding.+finds.Given as goal

abbrev pub invariant-push_all-loop-e : goal.invariant-push_all-loop-e
invariant-push_all-loop-e l = all_found l.initial.out.items ++ all_of (map (owned_here l.self) l.list) ≡ all_found l.out.items ++ all_of (map (owned_here l.self) (drop l.e-index l.list))

abbrev pub decreases-push : goal.decreases-push
decreases-push l = 4 * goal.size-push l

abbrev pub decreases-push_library : goal.decreases-push_library
decreases-push_library l = 4 * goal.size-push_library l

abbrev pub decreases-push_callee : goal.decreases-push_callee
decreases-push_callee l = 4 * goal.size-push_callee l

abbrev pub decreases-push_all : goal.decreases-push_all
decreases-push_all l = 4 * goal.size-push_all l + 1

abbrev pub decreases-push_boxed : goal.decreases-push_boxed
decreases-push_boxed l = 4 * goal.size-push_boxed l + 1

abbrev pub decreases-push_both : goal.decreases-push_both
decreases-push_both l = 4 * max (size-TypedExpr l.a.now) (size-TypedExpr l.b.now) + 1

abbrev pub decreases-push_deciding : goal.decreases-push_deciding
decreases-push_deciding l = 4 * max (size-TypedExpr l.a.now) (size-TypedExpr l.b.now) + 2

abbrev pub decreases-push_choice : goal.decreases-push_choice
decreases-push_choice l = 4 * max (size-TypedExpr l.c.now) (max (size-TypedExpr l.a.now) (size-TypedExpr l.b.now)) + 2
