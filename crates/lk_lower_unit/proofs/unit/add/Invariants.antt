use Rattle.std.proofs.Common.{◌≡◌, ◌++◌}
use Rattle.std.specs.Prelude.{map}
use Rattle.lk_lower_unit.specs.Bodies.{standing}
use Rattle.lk_lower_unit.proofs.unit.add.Given as goal

abbrev pub invariant-loop-step : goal.invariant-loop-step
invariant-loop-step l = record {
  can_next : (goal.iterator-loop-step).can_next l.step-iterator;
  is_finite : (goal.iterator-loop-step).is_finite l.step-iterator;
  added : l.out.items ++ map (standing l.function) l.step-iterator.rest.items ≡ l.initial.out.items ++ map (standing l.function) l.fn.steps.items;
}
