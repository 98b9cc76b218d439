use Rattle.std.proofs.Common.{◌≡◌}
use Rattle.lk_birth.specs.Starts.{with_pointers}
use Rattle.lk_birth.proofs.starting.put_pointers.Given as goal

-- the pointers so far
abbrev pub invariant-loop-place : goal.invariant-loop-place
invariant-loop-place l = l.object ≡ with_pointers l.fn.object l.place
