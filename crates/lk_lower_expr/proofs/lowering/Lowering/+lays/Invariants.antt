use Rattle.std.proofs.Common.{◌≡◌, ◌+◌, ◌*◌, ◌-◌, drop, length, max}
use Rattle.std.specs.Prelude.{map}
use Rattle.lk_lower_expr.specs.Laid.{laid}
use Rattle.lk_lower_expr.specs.Reads.{part_by}
use Rattle.lk_lower_expr.specs.Parts.{first_of, in_turn}
use Rattle.lk_typed.specs.declared.expression.TypedExpr.{size-TypedExpr}
use Rattle.lk_lower_expr.proofs.lowering.Lowering.+lays.Given as goal

abbrev pub invariant-push_operands-loop-k : goal.invariant-push_operands-loop-k
invariant-push_operands-loop-k l = record {
  steps : l.out.items ≡ laid (in_turn (map (part_by l.self) (drop (length l.operands - l.k) l.operands)) l.on) l.initial.out.items;
  next : l.next ≡ first_of (map (part_by l.self) (drop (length l.operands - l.k) l.operands)) l.on;
}

abbrev pub decreases-push_inside : goal.decreases-push_inside
decreases-push_inside l = 4 * goal.size-push_inside l

abbrev pub decreases-push_library : goal.decreases-push_library
decreases-push_library l = 4 * goal.size-push_library l

abbrev pub decreases-push_steps : goal.decreases-push_steps
decreases-push_steps l = 4 * goal.size-push_steps l + 1

abbrev pub decreases-push_place : goal.decreases-push_place
decreases-push_place l = 4 * goal.size-push_place l + 2

abbrev pub decreases-push_operands : goal.decreases-push_operands
decreases-push_operands l = 4 * goal.size-push_operands l + 2

abbrev pub decreases-push_followed : goal.decreases-push_followed
decreases-push_followed l = 4 * goal.size-push_followed l + 2

abbrev pub decreases-push_both : goal.decreases-push_both
decreases-push_both l = 4 * max (size-TypedExpr l.a.now) (size-TypedExpr l.b.now) + 2

abbrev pub decreases-push_deciding : goal.decreases-push_deciding
decreases-push_deciding l = 4 * max (size-TypedExpr l.a.now) (size-TypedExpr l.b.now) + 2

abbrev pub decreases-push_assigned : goal.decreases-push_assigned
decreases-push_assigned l = 4 * max (size-TypedExpr l.place.now) (size-TypedExpr l.value.now) + 3

abbrev pub decreases-push_updated : goal.decreases-push_updated
decreases-push_updated l = 4 * max (size-TypedExpr l.place.now) (size-TypedExpr l.value.now) + 3
