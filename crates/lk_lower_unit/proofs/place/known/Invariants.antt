use Rattle.std.proofs.Common.{◌≡◌, ◌++◌, Some}
use Rattle.std.specs.Prelude.{map}
use Rattle.lk_lower_unit.proofs.place.known.Given as goal

abbrev pub invariant-loop-point : goal.invariant-loop-point
invariant-loop-point l = record {
  can_next : (goal.iterator-loop-point).can_next l.point-iterator;
  is_finite : (goal.iterator-loop-point).is_finite l.point-iterator;
  known : map Some l.all.items ++ l.point-iterator.rest.items ≡ l.fn.points.items;
}
