use Rattle.std.proofs.Common.{length}
use Rattle.lk_held.specs.Releasing.{room}
use Rattle.lk_order.specs.Acquired.{Wants}
use Rattle.lk_order.specs.Acts.{basis_in, linear_in}
use Rattle.lk_order.specs.Growing.{AreSets, AreSound}
use Rattle.lk_order.proofs.acts.Acts.wants.Given as goal

abbrev pub invariant-loop-wants : goal.invariant-loop-wants
invariant-loop-wants l =
    let basis = basis_in l.self in
    AreSets (length basis.program.functions) (length basis.labels.entries) l.wants.items
    × AreSound (length basis.program.functions) (length basis.labels.entries) (Wants basis (linear_in l.self)) l.wants.items

abbrev pub decreases-loop-wants : goal.decreases-loop-wants
decreases-loop-wants l = room (length l.self.labels.now.entries) l.wants.items
