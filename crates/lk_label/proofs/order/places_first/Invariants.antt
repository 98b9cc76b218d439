use Rattle.std.proofs.Common.{take}
use Rattle.lk_label.specs.Gathering.{AreOrderedTo}
use Rattle.lk_label.proofs.order.places_first.Given as goal

abbrev pub invariant-loop-name : goal.invariant-loop-name
invariant-loop-name l = AreOrderedTo l.points l.names (take l.name-index l.names) l.ordered
