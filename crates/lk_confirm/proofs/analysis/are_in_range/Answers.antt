use Rattle.std.proofs.Common.{subst}
use Rattle.lk_types.specs.Building.{IsTable}
use Rattle.lk_confirm.proofs.analysis.are_in_range.Goals as goal

pub returns-clause-in_range : goal.returns-clause-in_range
returns-clause-in_range c = c.count.ensures.in_range

pub returns-clause-table : goal.returns-clause-table
returns-clause-table c = subst IsTable c.types.ensures c.is_table.ensures
