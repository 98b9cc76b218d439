use Rattle.std.proofs.Common.{◌++◌, map, take, length}
use Rattle.lk_types.specs.Nodes.{node_of}
use Rattle.lk_types.specs.Table.{fields_of, type_at}
use Rattle.lk_types.specs.declared.node.Sel.TheVariants.{Part}
use Rattle.lk_label.specs.Parts.{HasParts}
use Rattle.lk_label.proofs.PartLists.{sels_to}
use Rattle.lk_label.proofs.parts.parts_in_order.Given as goal

abbrev pub invariant-loop-number : goal.invariant-loop-number
invariant-loop-number l = HasParts l.types l.node (sels_to l.number) l.parts.items

abbrev pub invariant-loop-part : goal.invariant-loop-part
invariant-loop-part l = HasParts l.types l.node (sels_to (length (fields_of l.types (type_at l.types (node_of l.types l.node).type))) ++ map Part (take l.part-index l.types.parts)) l.parts.items
