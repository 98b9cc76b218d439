use Rattle.std.proofs.Common.{◌≡◌, length}
use Rattle.lk_held.proofs.acts.Acts.calls.Given as goal

abbrev pub invariant-loop-point : goal.invariant-loop-point
invariant-loop-point l = length l.calls ≡ length l.self.points.now.functions
