use Rattle.std.proofs.Common.{take}
use Rattle.lk_label.specs.Naming.{AreJoined}
use Rattle.lk_label.proofs.named.put_all.Given as goal

abbrev pub invariant-loop-node : goal.invariant-loop-node
invariant-loop-node l = AreJoined l.initial.found (take l.node-index l.nodes) l.found
