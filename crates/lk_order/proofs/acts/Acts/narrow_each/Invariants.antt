use Rattle.std.proofs.Common.{take}
use Rattle.lk_held.specs.Progress.{Progress}
use Rattle.lk_order.specs.Acts.{basis_in}
use Rattle.lk_order.specs.Dropping.{Sheds, AreWithin}
use Rattle.lk_order.specs.Left.{left_weight}
use Rattle.lk_order.proofs.acts.Acts.narrow_each.Given as goal

abbrev pub invariant-loop-point : goal.invariant-loop-point
invariant-loop-point l =
    Progress left_weight (Sheds (basis_in l.self) l.points l.set) (AreWithin (basis_in l.self) (take l.point-index l.points) l.set) l.initial.states l.states l.changed
