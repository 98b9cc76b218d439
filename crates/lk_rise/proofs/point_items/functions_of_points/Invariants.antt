use Rattle.std.proofs.Common.{◌≡◌, ◌<◌, ◌+◌, length, take, All}
use Rattle.lk_rise.specs.PointItems.{point_functions}
use Rattle.lk_rise.proofs.point_items.functions_of_points.Given as goal

abbrev pub invariant-loop-point : goal.invariant-loop-point
invariant-loop-point l = record {
  keys : l.keys.items ≡ point_functions (take l.point l.facts.program.points);
  below : All (λ f. f < length l.facts.program.functions + 1) l.keys.items;
}
