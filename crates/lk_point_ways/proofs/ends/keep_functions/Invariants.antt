use Rattle.std.proofs.Common.{◌<◌, ℕ}
use Rattle.lk_point_ways.specs.Kept.{KeepsFunction}
use Rattle.lk_point_ways.proofs.ends.keep_functions.Given as goal

abbrev pub invariant-loop-f : goal.invariant-loop-f
invariant-loop-f l = (f : ℕ) → f < l.f → KeepsFunction l.points f
