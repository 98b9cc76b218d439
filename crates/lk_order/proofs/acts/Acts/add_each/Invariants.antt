use Rattle.std.proofs.Common.{◌≡◌, ℕ, true, take}
use Rattle.lk_held.specs.Progress.{Progress}
use Rattle.lk_held.specs.Releasing.{room}
use Rattle.lk_order.specs.Acquiring.{Grows, HasAll}
use Rattle.lk_order.specs.Acts.{basis_in, points_in, labels_in}
use Rattle.lk_order.specs.Growing.{AreSets}
use Rattle.lk_sets.specs.Ids.{has_id}
use Rattle.lk_order.proofs.acts.Acts.add_each.Given as goal

abbrev pub invariant-loop-point : goal.invariant-loop-point
invariant-loop-point l = record {
  sets : AreSets (points_in l.self) (labels_in l.self) l.acquired.items;
  progress : Progress (room (labels_in l.self)) (Grows (basis_in l.self) l.points l.more (points_in l.self) (labels_in l.self)) (λ sets. (p : ℕ) → has_id (take l.point-index l.points) p ≡ true → HasAll (basis_in l.self) l.more p sets) l.initial.acquired.items l.acquired.items l.changed;
}
