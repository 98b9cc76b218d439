use Rattle.std.proofs.Common.{subst}
use Rattle.lk_types.specs.Order.{IsOrdered}
use Rattle.lk_types.proofs.table.TypeTable.elements_are_ordered.Goals as goal

pub returns : goal.returns
returns c = subst IsOrdered c.self.view_is c.self.invariant.ordered
