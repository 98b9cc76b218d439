use Rattle.std.proofs.Common.{◌≡◌, ◌<◌, ◌↔◌, ℕ, true, All, length, take}
use Rattle.lk_held.specs.Acts.{basis_in, OneRuns}
use Rattle.lk_held.specs.Releasing.{Releases, IsOutside}
use Rattle.lk_sets.specs.Ids.{has_id}
use Rattle.lk_held.proofs.acts.Acts.outside_callees.Given as goal

abbrev pub invariant-loop-link : goal.invariant-loop-link
invariant-loop-link l = record {
  members : (x : ℕ) → (has_id l.all x ≡ true) ↔ OneRuns (take l.link-index l.link-items) (IsOutside (basis_in l.self).flow (Releases l.released) x);
  below : All (λ x. x < length l.self.labels.now.entries) l.all;
}
