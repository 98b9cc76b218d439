use Rattle.std.proofs.Common.{◌≡◌, ◌<◌, ℕ, Some, slice_get, suc}
use Rattle.lk_lower_parts.specs.Gathers.{IsNodeBefore}
use Rattle.lk_lower_parts.specs.declared.numbers.NodeAt.{NodeAt}
use Rattle.lk_lower_parts.proofs.order.rise.Given as goal

abbrev pub invariant-loop-k : goal.invariant-loop-k
invariant-loop-k l = (n : ℕ) (a b : NodeAt) → suc n < l.k → slice_get l.nodes n ≡ Some a → slice_get l.nodes (suc n) ≡ Some b → IsNodeBefore a b
