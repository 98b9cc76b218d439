-- What the numbers of a typed tree stand for in the program.
use Rattle.std.specs.Prelude.{ℕ, Bool, Option}
use Rattle.lk_base.specs.declared.cell.CellStep.{CellStep}
use Rattle.lk_base.specs.declared.spot.Spot.{Spot}
use Rattle.lk_typed.specs.declared.expression.Storage.{Storage}
use Rattle.lk_types.specs.declared.c_type.CType.{CType}

-- a node of the typed tree: its number, the place of its first token, and the source's number of its type
pub record Node : Type 0 where
  pub ordinal : ℕ
  pub spot : Spot
  pub type : ℕ

pub record Names : Type 0 where
  -- the control point that is a step of a node: `at node step`. No other rule gives a number to a point.
  pub at : ℕ → ℕ → ℕ
  -- a type of the source: what it is, its number in the program's table, and that of the pointer to it
  pub form : ℕ → CType
  pub type : ℕ → ℕ
  pub pointer : ℕ → ℕ
  -- the root of an object, of the text at a node, and of the allocation at a node
  pub object : Storage → ℕ
  pub text : ℕ → ℕ
  pub heap : ℕ → ℕ
  -- the type of a member or an element of a type of the source
  pub inside : ℕ → CellStep → ℕ
  -- the declared name of a local: the number of its node, its place and its type
  pub declared : ℕ → Node
  -- the slot that a local is, where it is one, and the hidden one of a node whose value comes on several ways
  pub slot : ℕ → Option ℕ
  pub hidden : ℕ → ℕ
  -- the function that an entity of the source is, and whether a source of the program defines it
  pub function : ℕ → ℕ
  pub is_defined : ℕ → Bool
