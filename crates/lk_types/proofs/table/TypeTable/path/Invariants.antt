use Rattle.lk_types.proofs.LeftPath.{IsAhead}
use Rattle.lk_types.proofs.table.TypeTable.path.Given as goal

abbrev pub invariant-loop-number : goal.invariant-loop-number
invariant-loop-number l = IsAhead l.self l.fn.n l.path.items l.t l.number

abbrev pub decreases-loop-number : goal.decreases-loop-number
decreases-loop-number l = l.number
