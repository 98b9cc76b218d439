use Rattle.lk_order.specs.Acts.{basis_in}
use Rattle.lk_order.specs.Dropping.{AreStates, AreLost}
use Rattle.lk_order.specs.Left.{left_weight}
use Rattle.lk_order.proofs.acts.Acts.dropped.Given as goal

abbrev pub invariant-loop-states : goal.invariant-loop-states
invariant-loop-states l = AreStates (basis_in l.self) l.states × AreLost (basis_in l.self) l.states

abbrev pub decreases-loop-states : goal.decreases-loop-states
decreases-loop-states l = left_weight l.states
