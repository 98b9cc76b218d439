use Rattle.std.proofs.Common.{take}
use Rattle.lk_held.specs.Acts.{basis_in}
use Rattle.lk_held.specs.Holding.{AreBrought}
use Rattle.lk_held.specs.States.{holds}
use Rattle.lk_held.proofs.acts.Acts.brought.Given as goal

abbrev pub invariant-loop-link : goal.invariant-loop-link
invariant-loop-link l = AreBrought (basis_in l.self) (holds l.states) (take l.link-index l.link-items) l.all
