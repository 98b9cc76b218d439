use Rattle.std.proofs.Common.{◌≡◌, map}
use Rattle.std.specs.List.{range_with_len}
use Rattle.lk_order.specs.Dropping.{first_set}
use Rattle.lk_order.proofs.acts.Acts.first_sets.Given as goal

abbrev pub invariant-loop-point : goal.invariant-loop-point
invariant-loop-point l = l.sets.items ≡ map (first_set l.self.points.now l.entries) (range_with_len 0 l.point)
