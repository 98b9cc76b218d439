use Rattle.std.proofs.Common.{◌≡◌, ◌≤◌, take, length}
use Rattle.lk_types.specs.Table.{fields_of, type_at}
use Rattle.lk_types.specs.Places.{nodes_of_all}
use Rattle.lk_types.proofs.table.TypeTable.nodes_before.Given as goal

abbrev pub invariant-loop-k : goal.invariant-loop-k
invariant-loop-k l = (l.count ≡ nodes_of_all l.self (take l.k (fields_of l.self (type_at l.self l.t)))) × (l.k ≤ length (fields_of l.self (type_at l.self l.t)))
