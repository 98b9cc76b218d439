use Rattle.lk_order.specs.Acts.{basis_in, linear_in}
use Rattle.lk_order.specs.Asking.{AreKnown, unknown}
use Rattle.lk_order.proofs.acts.Acts.are_same.Given as goal

abbrev pub invariant-loop-known : goal.invariant-loop-known
invariant-loop-known l = AreKnown (basis_in l.self) (linear_in l.self) l.known.keys

abbrev pub decreases-loop-known : goal.decreases-loop-known
decreases-loop-known l = unknown l.known.keys
