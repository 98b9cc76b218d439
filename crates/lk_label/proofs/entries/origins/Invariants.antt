use Rattle.lk_label.specs.Gathering.{AreOriginsTo}
use Rattle.lk_label.proofs.entries.origins.Given as goal

abbrev pub invariant-loop-r : goal.invariant-loop-r
invariant-loop-r l = AreOriginsTo l.points l.r l.found
