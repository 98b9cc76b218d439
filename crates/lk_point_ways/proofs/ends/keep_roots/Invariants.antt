use Rattle.std.proofs.Common.{◌<◌, ℕ}
use Rattle.lk_point_ways.specs.Kept.{KeepsRoot}
use Rattle.lk_point_ways.proofs.ends.keep_roots.Given as goal

abbrev pub invariant-loop-r : goal.invariant-loop-r
invariant-loop-r l = (r : ℕ) → r < l.r → KeepsRoot l.points r
