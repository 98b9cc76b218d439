-- The parts of a node that are found so far. Only the private calls of this crate speak of it.
use Rattle.std.specs.Prelude.{◌≡◌, List, map, filter_map, All}
use Rattle.lk_types.specs.Nodes.{IsNode, node_of, step}
use Rattle.lk_types.specs.Table.{Table}
use Rattle.lk_types.specs.declared.node.NodeId.{NodeId}
use Rattle.lk_types.specs.declared.node.Sel.{Sel}

-- the nodes are those to which these steps lead
pub record HasParts (table : Table) (node : NodeId) (sels : List Sel) (parts : List NodeId) : Type 0 where
  pub are : map (node_of table) parts ≡ filter_map (step table (node_of table node)) sels
  pub nodes : All (IsNode table) parts
