use Rattle.std.proofs.Common.{take}
use Rattle.lk_lower_unit.proofs.Counted.{Counted}
use Rattle.lk_lower_unit.proofs.counts.counts_of.Given as goal

abbrev pub invariant-loop-one : goal.invariant-loop-one
invariant-loop-one l = Counted (take l.one-index l.steps) l.counts.items
