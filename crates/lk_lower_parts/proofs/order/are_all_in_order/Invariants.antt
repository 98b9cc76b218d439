use Rattle.std.proofs.Common.{◌≡◌, ◌<◌, ℕ, List, Some, slice_get}
use Rattle.lk_lower_parts.specs.Gathers.{AreInOrder}
use Rattle.lk_lower_parts.specs.declared.numbers.NodeAt.{NodeAt}
use Rattle.lk_lower_parts.proofs.order.are_all_in_order.Given as goal

abbrev pub invariant-loop-row : goal.invariant-loop-row
invariant-loop-row l = (k : ℕ) (nodes : List NodeAt) → k < l.row-index → slice_get l.rows k ≡ Some nodes → AreInOrder l.by_node 0 nodes
