use Rattle.lk_held.specs.Acts.{basis_in}
use Rattle.lk_held.specs.Releasing.{AreDropped}
use Rattle.lk_held.proofs.acts.Acts.dropped.Given as goal

abbrev pub invariant-loop-point : goal.invariant-loop-point
invariant-loop-point l = AreDropped (basis_in l.self) l.point l.dropped.items
