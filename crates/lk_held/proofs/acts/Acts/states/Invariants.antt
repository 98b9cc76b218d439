use Rattle.lk_held.specs.Acts.{basis_in}
use Rattle.lk_held.specs.Holding.{AreStates, AreLost}
use Rattle.lk_held.specs.States.{weight}
use Rattle.lk_held.proofs.acts.Acts.states.Given as goal

abbrev pub invariant-loop-states : goal.invariant-loop-states
invariant-loop-states l = AreStates (basis_in l.self) l.states × AreLost (basis_in l.self) l.states

abbrev pub decreases-loop-states : goal.decreases-loop-states
decreases-loop-states l = weight l.states
