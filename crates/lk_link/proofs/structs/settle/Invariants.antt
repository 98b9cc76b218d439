use Rattle.std.proofs.Common.{◌-◌, ◌^◌}
use Rattle.lk_link.proofs.Keeping.{IsKeeping}
use Rattle.lk_link.proofs.structs.settle.Given as goal

abbrev pub decreases-loop-place : goal.decreases-loop-place
decreases-loop-place l = 2 ^ 63 - l.place

abbrev pub invariant-loop-place : goal.invariant-loop-place
invariant-loop-place l = IsKeeping l.units l.initial.pairs l.pairs l.place
