use Rattle.std.proofs.Common.{◌≡◌, ◌++◌, drop, length, take}
use Rattle.lk_lower_unit.specs.Placed.{lived}
use Rattle.lk_lower_unit.proofs.programs.give_life.Given as goal

abbrev pub invariant-loop-p : goal.invariant-loop-p
invariant-loop-p l = record {
  many : length l.points.items ≡ l.p-end;
  lived : lived l.live.items l.initial.points.items ≡ take l.p l.points.items ++ lived (drop l.p l.live.items) (drop l.p l.points.items);
}
