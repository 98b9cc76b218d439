use Rattle.std.proofs.Common.{take}
use Rattle.lk_order.specs.Acts.{basis_in}
use Rattle.lk_held.specs.Holding.{AreBrought}
use Rattle.lk_order.specs.Left.{is_left}
use Rattle.lk_order.proofs.acts.Acts.dropped_below.Given as goal

abbrev pub invariant-loop-link : goal.invariant-loop-link
invariant-loop-link l = AreBrought (basis_in l.self) (is_left l.states) (take l.link-index l.link-items) l.all
