use Rattle.lk_types.proofs.ElementLemmas.{IsLeft}
use Rattle.lk_types.proofs.table.TypeTable.has_no_element.Given as goal

abbrev pub invariant-loop-number : goal.invariant-loop-number
invariant-loop-number l = IsLeft l.self l.fn.n l.t l.number

abbrev pub decreases-loop-number : goal.decreases-loop-number
decreases-loop-number l = l.number
