use Rattle.std.proofs.Common.{take}
use Rattle.lk_sets.specs.Adding.{Adds, IsGiven}
use Rattle.lk_origin.specs.Arrows.{IsAlong}
use Rattle.lk_origin.proofs.arrows.along.Given as goal

abbrev pub invariant-loop-summary : goal.invariant-loop-summary
invariant-loop-summary l = Adds (IsGiven IsAlong (take l.summary-index l.summaries)) l.initial.arrows.items l.arrows.items
