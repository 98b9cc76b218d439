use Rattle.std.proofs.Common.{take}
use Rattle.lk_types.specs.Building.{ArePartsOf}
use Rattle.lk_types.proofs.table.TypeTable.are_parts.Given as goal

abbrev pub invariant-loop-place : goal.invariant-loop-place
invariant-loop-place l = ArePartsOf l.self (take l.place l.parts)
