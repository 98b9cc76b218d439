use Rattle.std.proofs.Common.{length}
use Rattle.lk_held.specs.Releasing.{room}
use Rattle.lk_order.specs.Acquired.{Acq}
use Rattle.lk_order.specs.Acts.{basis_in, linear_in}
use Rattle.lk_order.specs.Growing.{AreSets, AreSound}
use Rattle.lk_order.proofs.acts.Acts.acquired.Given as goal

abbrev pub invariant-loop-acquired : goal.invariant-loop-acquired
invariant-loop-acquired l =
    let basis = basis_in l.self in
    AreSets (length basis.program.points) (length basis.labels.entries) l.acquired.items
    × AreSound (length basis.program.points) (length basis.labels.entries) (Acq basis (linear_in l.self)) l.acquired.items

abbrev pub decreases-loop-acquired : goal.decreases-loop-acquired
decreases-loop-acquired l = room (length l.self.labels.now.entries) l.acquired.items
