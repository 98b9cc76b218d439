use Rattle.lk_lower_unit.proofs.Placing.{DoneBefore}
use Rattle.lk_lower_unit.specs.Placed.{ArePutBeside}
use Rattle.lk_lower_unit.proofs.place.place.Given as goal

abbrev pub invariant-loop-one : goal.invariant-loop-one
invariant-loop-one l = record {
  can_next : (goal.iterator-loop-one).can_next l.one-iterator;
  is_finite : (goal.iterator-loop-one).is_finite l.one-iterator;
  beside : ArePutBeside l.initial.points.items l.points.items;
  done : DoneBefore l.names l.fn.steps.items l.one-iterator.rest.items l.points.items;
}
