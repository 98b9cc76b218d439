use Rattle.lk_types.specs.Nodes.{base_type}
use Rattle.lk_types.specs.Places.{entry_at}
use Rattle.lk_types.specs.Table.{IsKnown}
use Rattle.lk_types.proofs.NodeLemmas.{IsSamePart}
use Rattle.lk_types.proofs.table.TypeTable.node_type.Given as goal

abbrev pub invariant-loop-number : goal.invariant-loop-number
invariant-loop-number l = IsKnown l.self l.t × IsSamePart (entry_at l.self (base_type l.fn.n.base) l.fn.n.number) (entry_at l.self l.t l.number)

abbrev pub decreases-loop-number : goal.decreases-loop-number
decreases-loop-number l = l.number
