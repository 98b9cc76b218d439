use Rattle.std.proofs.Common.{◌≡◌, ◌<◌, ◌+◌, ℕ, Some, slice_get}
use Rattle.lk_lower_parts.specs.Givens.{at_node}
use Rattle.lk_lower_parts.specs.declared.numbers.NodeAt.{NodeAt}
use Rattle.lk_lower_parts.proofs.order.have_numbers.Given as goal

abbrev pub invariant-loop-k : goal.invariant-loop-k
invariant-loop-k l = (n : ℕ) (a : NodeAt) → n < l.k → slice_get l.nodes n ≡ Some a → at_node l.by_node a.source a.ordinal ≡ l.first + n
