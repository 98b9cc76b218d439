use Rattle.std.proofs.Common.{◌≡◌, length}
use Rattle.lk_held.proofs.acts.Acts.put_calls.Given as goal

abbrev pub invariant-loop-link : goal.invariant-loop-link
invariant-loop-link l = length l.calls ≡ length l.self.points.now.functions
