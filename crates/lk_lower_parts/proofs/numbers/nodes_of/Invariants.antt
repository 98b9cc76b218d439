use Rattle.std.proofs.Common.{◌≡◌, take}
use Rattle.lk_lower_parts.specs.Gathers.{slot_nodes}
use Rattle.lk_lower_parts.proofs.numbers.nodes_of.Given as goal

abbrev pub invariant-loop-slot : goal.invariant-loop-slot
invariant-loop-slot l = l.nodes.items ≡ slot_nodes l.source (take l.slot-index l.list)
