use Rattle.lk_label.specs.Listing.{AreTargets}
use Rattle.lk_label.proofs.targets.targets.Given as goal

abbrev pub invariant-loop-p : goal.invariant-loop-p
invariant-loop-p l = AreTargets l.points l.names l.p l.targets.items
