use Rattle.std.proofs.Common.{take}
use Rattle.lk_sets.specs.Adding.{Adds, IsGiven}
use Rattle.lk_origin.specs.Inflows.{IsOutside}
use Rattle.lk_origin.proofs.inflow.outside_at.Given as goal

abbrev pub invariant-loop-inflow : goal.invariant-loop-inflow
invariant-loop-inflow l = Adds (IsGiven IsOutside (take l.inflow-index l.inflow-items)) l.initial.list.items l.list.items
