use Rattle.std.proofs.Common.{◌≡◌, ◌<◌, ℕ, Some, slice_get}
use Rattle.lk_facts.specs.declared.root.Root.{Root}
use Rattle.lk_lower_parts.proofs.order.have_types.Given as goal

abbrev pub invariant-loop-root : goal.invariant-loop-root
invariant-loop-root l = (k : ℕ) (root : Root) → k < l.root-index → slice_get l.roots k ≡ Some root → root.ty < l.count
