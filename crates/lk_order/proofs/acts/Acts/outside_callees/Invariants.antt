use Rattle.std.proofs.Common.{◌≡◌, ◌<◌, ◌↔◌, ℕ, true, All, length, take}
use Rattle.lk_held.specs.Acts.{OneRuns}
use Rattle.lk_order.specs.Acts.{basis_in}
use Rattle.lk_order.specs.Giving.{Has, IsOutside}
use Rattle.lk_sets.specs.Ids.{has_id}
use Rattle.lk_order.proofs.acts.Acts.outside_callees.Given as goal

abbrev pub invariant-loop-link : goal.invariant-loop-link
invariant-loop-link l = record {
  members : (x : ℕ) → (has_id l.all x ≡ true) ↔ OneRuns (take l.link-index l.link-items) (IsOutside (basis_in l.self).flow (Has l.self.points.now l.by l.sets) x);
  below : All (λ x. x < length l.self.labels.now.entries) l.all;
}
