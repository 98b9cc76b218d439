-- The types to which operands are converted, as trees.
use Rattle.lk_types.specs.Table.{Table}
use Rattle.lk_typed.specs.Meaning.{meaning_of, IsKnownType}
use Rattle.lk_typed.specs.Operands as spec
use Rattle.lk_elab_expr.specs.declared.operands.OperandTypes.{OperandTypes}

abbrev pub types_in : Table → OperandTypes → spec.OperandTypes
types_in table types = record { left = meaning_of table types.left; right = meaning_of table types.right }

-- both are of the table
pub record AreKnown (table : Table) (types : OperandTypes) : Type 0 where
  pub left : IsKnownType table types.left
  pub right : IsKnownType table types.right
