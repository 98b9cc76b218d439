use Rattle.std.proofs.Common.{◌≡◌, ◌<◌, ℕ, false, Some, get_or}
use Rattle.lk_rise.specs.Tables.{item_at}
use Rattle.lk_rise.specs.declared.correlations.Correlation.{Correlation}
use Rattle.lk_rise.proofs.point_items.Below.has_child.Given as goal

abbrev pub invariant-loop-number : goal.invariant-loop-number
invariant-loop-number l = (j : ℕ) → j < l.number-index → (item : Correlation) → item_at l.self.items.now (get_or l.number-items j 0) ≡ Some item → item.child ≡ false
