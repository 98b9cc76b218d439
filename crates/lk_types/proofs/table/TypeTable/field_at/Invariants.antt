use Rattle.std.proofs.Common.{◌≡◌, ◌≤◌, ◌+◌, take}
use Rattle.lk_types.specs.Table.{fields_of, type_at}
use Rattle.lk_types.specs.Places.{nodes_of_all}
use Rattle.lk_types.proofs.table.TypeTable.field_at.Given as goal

abbrev pub invariant-loop-field : goal.invariant-loop-field
invariant-loop-field l = (l.number ≡ nodes_of_all l.self (take l.k (fields_of l.self (type_at l.self l.t))) + l.rest) × (l.k + l.rest ≤ l.number)

abbrev pub decreases-loop-field : goal.decreases-loop-field
decreases-loop-field l = l.rest
