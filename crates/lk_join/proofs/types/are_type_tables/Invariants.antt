use Rattle.std.proofs.Common.{take}
use Rattle.lk_join.specs.Large.{HaveTypeTables}
use Rattle.lk_join.proofs.types.are_type_tables.Given as goal

abbrev pub invariant-loop-unit : goal.invariant-loop-unit
invariant-loop-unit l = HaveTypeTables (take l.unit-index l.units)
