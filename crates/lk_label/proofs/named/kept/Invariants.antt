use Rattle.std.proofs.Common.{take}
use Rattle.lk_label.specs.Naming.{AreKept}
use Rattle.lk_label.proofs.named.kept.Given as goal

abbrev pub invariant-loop-node : goal.invariant-loop-node
invariant-loop-node l = AreKept (take l.node-index l.nodes) l.others l.kept.items
