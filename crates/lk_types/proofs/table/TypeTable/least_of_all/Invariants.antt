use Rattle.std.proofs.Common.{◌≡◌, take, map}
use Rattle.lk_types.specs.Table.{least_of}
use Rattle.lk_types.proofs.table.TypeTable.least_of_all.Given as goal

abbrev pub invariant-loop-t : goal.invariant-loop-t
invariant-loop-t l = l.least.items ≡ map (least_of l.self) (take l.t-index l.types)
