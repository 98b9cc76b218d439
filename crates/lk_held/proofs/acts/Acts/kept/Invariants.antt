use Rattle.std.proofs.Common.{length}
use Rattle.lk_facts.specs.Origins.{AreSetsBelow}
use Rattle.lk_held.specs.Acts.{basis_in}
use Rattle.lk_held.specs.LockSets.{AreKept}
use Rattle.lk_held.proofs.acts.Acts.kept.Given as goal

abbrev pub invariant-loop-point : goal.invariant-loop-point
invariant-loop-point l = AreKept (basis_in l.self) l.states l.point l.sets.items × AreSetsBelow (length l.self.labels.now.entries) l.sets.items
