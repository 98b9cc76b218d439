use Rattle.std.proofs.Common.{◌≡◌, ◌↔◌, ℕ, true, take}
use Rattle.lk_order.specs.Acquiring.{IsKept}
use Rattle.lk_order.specs.Acts.{basis_in, linear_in}
use Rattle.lk_sets.specs.Ids.{has_id}
use Rattle.lk_order.proofs.acts.Acts.kept.Given as goal

-- the labels so far that aren't dropped
abbrev pub invariant-loop-x : goal.invariant-loop-x
invariant-loop-x l = (y : ℕ) → (has_id l.ids.items y ≡ true) ↔ ((x : ℕ) × (has_id (take l.x-index l.labels) x ≡ true) × IsKept (basis_in l.self) (linear_in l.self) l.point x y)
