use Rattle.std.proofs.Common.{◌≡◌, ◌++◌}
use Rattle.std.specs.Prelude.{map}
use Rattle.lk_lower_unit.specs.Pointers.{ended_here}
use Rattle.lk_lower_unit.proofs.static_object.push_ended.Given as goal

abbrev pub invariant-loop-step : goal.invariant-loop-step
invariant-loop-step l = record {
  can_next : (goal.iterator-loop-step).can_next l.step-iterator;
  is_finite : (goal.iterator-loop-step).is_finite l.step-iterator;
  added : l.steps.items ++ map ended_here l.step-iterator.rest.items ≡ l.initial.steps.items ++ map ended_here l.fn.ended.items;
}
