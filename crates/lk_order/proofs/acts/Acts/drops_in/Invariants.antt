use Rattle.std.proofs.Common.{◌≡◌, ℕ, true, take}
use Rattle.lk_order.specs.Acquiring.{IsSameOver}
use Rattle.lk_order.specs.Acts.{basis_in, linear_in}
use Rattle.lk_sets.specs.Ids.{has_id}
use Rattle.lk_order.proofs.acts.Acts.drops_in.Given as goal

-- none so far is the same as x outside
abbrev pub invariant-loop-y : goal.invariant-loop-y
invariant-loop-y l = (y : ℕ) → has_id (take l.y-index l.y-items) y ≡ true → IsSameOver (basis_in l.self) (linear_in l.self) l.link.above l.link.way l.x y → ⊥
