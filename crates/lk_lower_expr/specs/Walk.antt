-- The control points of a construct before they have numbers: each is a step of a node of the typed tree.
use Rattle.std.specs.Prelude.{◌≡◌, ℕ, List, ◌∷◌, ◌++◌, length}
use Rattle.lk_lower_expr.specs.declared.step.Step.{Step}

-- the steps of a construct, node by node, in any order: a name says where a step stands
pub data Walk : Type 0 where
  nothing : Walk
  -- the steps of one node, in their order
  own : (node : ℕ) → List Step → Walk
  ◌then◌ : Walk → Walk → Walk

infixr 5 ◌then◌
-- the step of that number of that node is there
pub data IsStep (node step : ℕ) (is : Step) : Walk → Type 0 where
  here : (before behind : List Step) → length before ≡ step →
      IsStep node step is (own node (before ++ (is ∷ behind)))
  left : (a b : Walk) → IsStep node step is a → IsStep node step is (a then b)
  right : (a b : Walk) → IsStep node step is b → IsStep node step is (a then b)
