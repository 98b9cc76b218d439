use Rattle.std.proofs.Common.{◌≡◌, ℕ, true, take}
use Rattle.lk_order.specs.Acts.{basis_in}
use Rattle.lk_order.specs.Dropping.{Loses, HasPassed}
use Rattle.lk_held.specs.Progress.{Progress}
use Rattle.lk_order.specs.Left.{left_weight}
use Rattle.lk_sets.specs.Ids.{has_id}
use Rattle.lk_order.proofs.acts.Acts.round.Given as goal

abbrev pub invariant-loop-point : goal.invariant-loop-point
invariant-loop-point l =
    let basis = basis_in l.self in
    Progress left_weight (Loses basis) (λ s. (p : ℕ) → has_id (take l.point-index l.order) p ≡ true → HasPassed basis p s) l.initial.states l.states l.changed
