use Rattle.std.proofs.Common.{◌<◌, ℕ}
use Rattle.lk_point_ways.specs.Kept.{KeepsPoint}
use Rattle.lk_point_ways.proofs.going.keep_points.Given as goal

abbrev pub invariant-loop-p : goal.invariant-loop-p
invariant-loop-p l = (p : ℕ) → p < l.p → KeepsPoint l.points p
