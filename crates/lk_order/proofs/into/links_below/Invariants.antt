use Rattle.lk_rise.specs.Links.{AreLinksBelow}
use Rattle.lk_order.proofs.into.links_below.Given as goal

abbrev pub invariant-loop-point : goal.invariant-loop-point
invariant-loop-point l = AreLinksBelow l.links l.point l.all.items
