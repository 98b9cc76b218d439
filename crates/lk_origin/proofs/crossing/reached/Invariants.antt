use Rattle.std.proofs.Common.{take}
use Rattle.lk_sets.specs.Adding.{Adds, IsGiven}
use Rattle.lk_origin.specs.Crossings.{LeadsTo}
use Rattle.lk_origin.proofs.crossing.reached.Given as goal

abbrev pub invariant-loop-entrance : goal.invariant-loop-entrance
invariant-loop-entrance l = Adds (IsGiven (LeadsTo l.levels) (take l.entrance-index l.entrances)) l.initial.list.items l.list.items
