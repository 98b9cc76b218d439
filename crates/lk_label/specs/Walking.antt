-- Where a walk stands, and what is found by one. Only the private calls of this crate speak of it.
use Rattle.std.specs.Prelude.{◌≡◌, ℕ, List, [], ◌∷◌, ◌++◌, map, length, Option, Some, None, All, Contains}
use Rattle.lk_facts.specs.LabelRules.{Walk, parts_of}
use Rattle.lk_facts.specs.Places.{IsMissing}
use Rattle.lk_types.specs.Nodes.{Node, IsNode, node_of, first}
use Rattle.lk_types.specs.Table.{Table}
use Rattle.lk_types.specs.declared.node.Base.TheVariants.{Start}
use Rattle.lk_types.specs.declared.node.NodeId.{NodeId}

-- the first node ahead that isn't listed, and what is ahead behind it
pub data IsNext (listed : List NodeId) : (ahead : List NodeId) → Option NodeId →
    (rest : List NodeId) → Type 0 where
  none : IsNext listed [] None []
  here : (n : NodeId) (rest : List NodeId) → IsMissing listed n → IsNext listed (n ∷ rest) (Some n) rest
  over : (n : NodeId) (ahead : List NodeId) (next : Option NodeId) (rest : List NodeId) → Contains listed n →
      IsNext listed ahead next rest → IsNext listed (n ∷ ahead) next rest

module _ (table : Table) where
  -- the nodes are the parts of a node, in order
  pub record ArePartsOfNode (node : NodeId) (parts : List NodeId) : Type 0 where
    pub are : map (node_of table) parts ≡ parts_of table (node_of table node)
    pub nodes : All (IsNode table) parts

  -- a node that is next is listed, and its parts come before all that were ahead
  pub record Goes (node : NodeId) (listed more ahead next : List NodeId) : Type 0 where
    pub put : more ≡ listed ++ node ∷ []
    pub parts : List NodeId
    pub of : ArePartsOfNode node parts
    pub before : next ≡ parts ++ ahead

  -- a walk that has listed these nodes and has these ahead goes on to one from the Start of the type
  pub record IsWalking (t k : ℕ) (listed ahead : List NodeId) : Type 0 where
    pub count : length listed ≡ k
    pub nodes : All (IsNode table) listed
    pub nodes_ahead : All (IsNode table) ahead
    pub goes_on : (more : List Node) →
        Walk table (map (node_of table) listed) (map (node_of table) ahead) more →
        Walk table [] (first (Start t) ∷ []) (map (node_of table) listed ++ more)

  -- the nodes of a type in the order of the walk from its Start
  pub record IsWalkOf (t : ℕ) (ids : List NodeId) : Type 0 where
    pub walk : Walk table [] (first (Start t) ∷ []) (map (node_of table) ids)
    pub nodes : All (IsNode table) ids
