use Rattle.std.proofs.Common.{List, Option, reverse, length}
use Rattle.lk_types.specs.declared.node.NodeId.{NodeId}
use Rattle.lk_label.specs.Walking.{IsNext}
use Rattle.lk_label.proofs.walk.next_new.Given as goal

abbrev pub invariant-loop-node : goal.invariant-loop-node
invariant-loop-node l = (next : Option NodeId) (rest : List NodeId) → IsNext l.listed (reverse l.ahead.items) next rest → IsNext l.listed (reverse l.initial.ahead.items) next rest

abbrev pub decreases-loop-node : goal.decreases-loop-node
decreases-loop-node l = length l.ahead.items
