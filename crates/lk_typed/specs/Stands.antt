-- Where a node stands in a source, and which faults a source has. Given are the parts of a node, the codes
-- that hold at it, the parts in which a fault hides them, and the node's place and number.
use Rattle.std.specs.Prelude.{ℕ, ◌≡◌, ◌⊎◌, List, [], ◌∷◌}
use Rattle.lk_base.specs.declared.spot.Spot.{Spot}
use Rattle.lk_typed.specs.Env.{Env}
use Rattle.lk_typed.specs.Faults.{Breach, Fault}
use Rattle.lk_typed.specs.Nodes.{Node, Placed}

abbrev pub IsIn : {A : Type 0} → A → List A → Type 0
IsIn a [] = ⊥
IsIn a (b ∷ others) = (a ≡ b) ⊎ IsIn a others

-- the place of a node, and its number
pub record Mark : Type 0 where
  pub spot : Spot
  pub ordinal : ℕ

abbrev pub fault_at : Mark → Breach → Fault
fault_at mark broken = record { spot = mark.spot; ordinal = mark.ordinal; breach = broken }

module _ (parts : Env → Node → List Placed) (breaches : Env → Node → List Breach)
    (hiding : Env → Node → List Placed) (mark : Node → Mark) where
  -- a node stands in its environment inside another one in that one's
  pub data Stands : Env → Node → Env → Node → Type 0 where
    here : {env : Env} {node : Node} → Stands env node env node
    inside : {env env' : Env} {node node' : Node} (part : Placed) → IsIn part (parts env node) →
        Stands part.env part.node env' node' → Stands env node env' node'

  -- a code holds at a node that stands in one of these
  pub data Breaks : List Placed → Breach → Type 0 where
    breaks : {env' : Env} {node' : Node} {placed : List Placed} {broken : Breach} (part : Placed) →
        IsIn part placed → Stands part.env part.node env' node' → IsIn broken (breaches env' node') →
        Breaks placed broken

  -- this code holds at a node, and nothing hides it
  pub record Holds (env : Env) (node : Node) (broken : Breach) : Type 0 where
    pub breaks : IsIn broken (breaches env node)
    pub shown : (hidden : Breach) → Breaks (hiding env node) hidden → ⊥

  -- a fault of what stands in a node: a code that holds at a node which stands there
  pub data IsFault : Env → Node → Fault → Type 0 where
    fault : {env env' : Env} {node node' : Node} {broken : Breach} → Stands env node env' node' →
        Holds env' node' broken → IsFault env node (fault_at (mark node') broken)
