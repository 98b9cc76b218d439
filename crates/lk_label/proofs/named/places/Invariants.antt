use Rattle.std.proofs.Common.{take}
use Rattle.lk_label.specs.Naming.{ArePlaces}
use Rattle.lk_label.proofs.named.places.Given as goal

abbrev pub invariant-loop-node : goal.invariant-loop-node
invariant-loop-node l = ArePlaces l.types l.fn.t l.whole (take l.node-index l.walk) l.places
