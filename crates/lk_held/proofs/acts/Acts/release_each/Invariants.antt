use Rattle.std.proofs.Common.{◌≡◌, ℕ, length, take, true}
use Rattle.lk_held.specs.Progress.{Progress}
use Rattle.lk_held.specs.Releasing.{Gains, HasReleased, room}
use Rattle.lk_held.specs.Acts.{basis_in}
use Rattle.lk_sets.specs.Ids.{has_id}
use Rattle.lk_held.proofs.acts.Acts.release_each.Given as goal

abbrev pub invariant-loop-point : goal.invariant-loop-point
invariant-loop-point l =
    let basis = basis_in l.self in
    Progress (room (length basis.labels.entries)) (Gains basis)
    (λ sets. (p : ℕ) → has_id (take l.point-index l.order) p ≡ true → HasReleased basis p sets)
    l.initial.released.items l.released.items l.changed
