use Rattle.std.proofs.Common.{◌≡◌, ◌++◌, drop}
use Rattle.std.specs.Prelude.{map}
use Rattle.lk_lower_parts.specs.Gathers.{slot_nodes, types_of}
use Rattle.lk_lower_parts.proofs.numbers.number_slots.Given as goal

abbrev pub invariant-loop-row : goal.invariant-loop-row
invariant-loop-row l = record {
  slots : l.initial.slots.items ++ map types_of l.list ≡ l.slots.items ++ map types_of (drop l.row-index l.list);
  nodes : l.initial.nodes.items ++ map (slot_nodes l.source) l.list ≡ l.nodes.items ++ map (slot_nodes l.source) (drop l.row-index l.list);
}
