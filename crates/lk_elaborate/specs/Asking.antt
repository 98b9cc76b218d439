-- What is asked of the value of a switch.
use Rattle.std.specs.Prelude.{◌≡◌, Some}
use Rattle.lk_types.specs.Table.{Table}
use Rattle.lk_typed.specs.Addresses.{value}
use Rattle.lk_typed.specs.Elaborated.{InPlace, typing_at}
use Rattle.lk_typed.specs.Meaning.{meaning_of}
use Rattle.lk_typed.specs.Operands.{promoted_type}
use Rattle.lk_typed.specs.Typing.{Typing}
use Rattle.lk_typed.specs.declared.typed.ExprType.{ExprType}

-- the type to which its value is promoted
pub record HasPromoted (table : Table) (target : ExprType) (p : InPlace) : Type 0 where
  pub typing : Typing
  pub found : typing_at p ≡ Some typing
  pub is : meaning_of table target ≡ promoted_type (value typing).type
