use Rattle.std.proofs.Common.{◌≡◌, ℕ, length, take, true}
use Rattle.lk_held.specs.Progress.{Progress}
use Rattle.lk_held.specs.Releasing.{room}
use Rattle.lk_order.specs.Acquired.{Wants}
use Rattle.lk_order.specs.Acts.{basis_in, linear_in}
use Rattle.lk_order.specs.Growing.{Gains}
use Rattle.lk_order.specs.Wanting.{HasWanted}
use Rattle.lk_sets.specs.Ids.{has_id}
use Rattle.lk_order.proofs.acts.Acts.want_each.Given as goal

abbrev pub invariant-loop-point : goal.invariant-loop-point
invariant-loop-point l =
    let basis = basis_in l.self in
    Progress (room (length basis.labels.entries)) (Gains (length basis.program.functions) (length basis.labels.entries) (Wants basis (linear_in l.self)))
    (λ sets. (p : ℕ) → has_id (take l.point-index l.order) p ≡ true → HasWanted basis p sets)
    l.initial.wants.items l.wants.items l.changed
