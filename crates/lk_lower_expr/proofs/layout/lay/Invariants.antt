use Rattle.std.proofs.Common.{◌≡◌}
use Rattle.lk_lower_expr.specs.Laid.{laid_from}
use Rattle.lk_lower_expr.proofs.layout.lay.Given as goal

abbrev pub invariant-loop-is : goal.invariant-loop-is
invariant-loop-is l = record {
  can_next : (goal.iterator-loop-is).can_next l.is-iterator;
  is_finite : (goal.iterator-loop-is).is_finite l.is-iterator;
  laid : laid_from l.node l.step l.is-iterator.rest.items l.out.items ≡ laid_from l.node 0 l.fn.steps.items l.initial.out.items;
}
