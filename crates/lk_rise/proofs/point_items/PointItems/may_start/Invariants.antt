use Rattle.std.proofs.Common.{◌≡◌, ◌<◌, ℕ, false, get_or}
use Rattle.lk_facts.specs.Facts.{basis_of}
use Rattle.lk_rise.specs.Correlations.{has_of}
use Rattle.lk_rise.specs.PointItems.{IsItemOf}
use Rattle.lk_rise.specs.declared.point_items.ItemAt.{ItemAt}
use Rattle.lk_rise.proofs.point_items.PointItems.may_start.Given as goal

abbrev pub invariant-loop-point : goal.invariant-loop-point
invariant-loop-point l =
    (j : ℕ) → j < l.point-index → (i : ItemAt) → i.point ≡ get_or l.point-items j 0 → IsItemOf (basis_of l.self.facts) (has_of l.self.entries) l.function i → i.child ≡ false
