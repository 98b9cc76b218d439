use Rattle.lk_typed.specs.Addresses.{value}
use Rattle.lk_check_unit.specs.Converting.{given_rules}
use Rattle.lk_check_unit.proofs.Returned.{value_stands}
use Rattle.lk_typed.specs.Meaning.{meaning}
use Rattle.std.specs.Prelude.{option_map}
use Rattle.lk_check_unit.proofs.returning.value_code.Goals as goal

pub returns : goal.returns
returns c = λ x is.
    c.return_value_code.ensures (given_rules (option_map (meaning c.args.types.now) c.args.returned) x)
    (c.conversion_code-conversion.ensures (value x) (value_stands c.args.types.now c.args.typing.now c.value-v.result x c.value-v.ensures.value is))
