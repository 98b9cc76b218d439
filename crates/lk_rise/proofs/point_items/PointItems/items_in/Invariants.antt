use Rattle.std.proofs.Common.{◌↔◌, Contains, take}
use Rattle.lk_facts.specs.Facts.{basis_of}
use Rattle.lk_rise.specs.Correlations.{has_of}
use Rattle.lk_rise.specs.PointItems.{IsItemOf}
use Rattle.lk_rise.specs.declared.point_items.ItemAt.{ItemAt}
use Rattle.lk_rise.proofs.point_items.PointItems.items_in.Given as goal

abbrev pub invariant-loop-point : goal.invariant-loop-point
invariant-loop-point l =
    (i : ItemAt) → Contains l.found.items i ↔ (Contains (take l.point-index l.point-items) i.point × IsItemOf (basis_of l.self.facts) (has_of l.self.entries) l.function i)
