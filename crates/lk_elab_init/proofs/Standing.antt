-- What stands in a node of a source stands in the source.
use Rattle.std.proofs.Common.{List}
use Rattle.lk_tree.specs.declared.statement.Unit.{Unit}
use Rattle.lk_typed.specs.Entities.{StandsIn}
use Rattle.lk_typed.specs.Env.{Env, Name}
use Rattle.lk_typed.specs.NodeParts.{parts}
use Rattle.lk_typed.specs.Nodes.{Node, Placed}
use Rattle.lk_typed.specs.Stands.{IsIn}
use Rattle.lk_typed.specs.Stands.Stands.{here, inside}
use Rattle.lk_typed.specs.Units.{IsNode, at_end}
use Rattle.lk_typed.specs.Units.IsNode.{node_of}

module _ (externs : List Name) (unit : Unit) where
  pub stands_then : {a b c : Env} {n m k : Node} → StandsIn externs unit a n b m → StandsIn externs unit b m c k → StandsIn externs unit a n c k
  stands_then here then = then
  stands_then (inside part is stands) then = inside part is (stands_then stands then)

  pub node_within : {env env' : Env} {node node' : Node} → IsNode externs unit env node → StandsIn externs unit env node env' node' → IsNode externs unit env' node'
  node_within (node_of external is stands) then = node_of external is (stands_then stands then)

  pub stands_as_part : {env : Env} {node : Node} (part : Placed) → IsIn part (parts (at_end externs unit) env node) → StandsIn externs unit env node part.env part.node
  stands_as_part part is = inside part is here

  pub part_stands : {env : Env} {node : Node} (part : Placed) → IsNode externs unit env node → IsIn part (parts (at_end externs unit) env node) → IsNode externs unit part.env part.node
  part_stands part node is = node_within node (stands_as_part part is)
