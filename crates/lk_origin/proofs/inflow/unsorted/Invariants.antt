use Rattle.std.proofs.Common.{take}
use Rattle.lk_sets.specs.Adding.{Adds, IsGiven}
use Rattle.lk_origin.specs.Inflows.{Enters}
use Rattle.lk_origin.proofs.inflow.unsorted.Given as goal

abbrev pub invariant-loop-entrance : goal.invariant-loop-entrance
invariant-loop-entrance l = Adds (IsGiven (Enters l.levels) (take l.entrance-index l.entrances)) l.initial.all.items l.all.items
