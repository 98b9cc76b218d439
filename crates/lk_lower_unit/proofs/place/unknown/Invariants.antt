use Rattle.std.proofs.Common.{◌≡◌, length}
use Rattle.lk_lower_unit.proofs.place.unknown.Given as goal

abbrev pub invariant-loop : goal.invariant-loop
invariant-loop l = length l.points.items ≡ l.counter
