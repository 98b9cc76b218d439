use Rattle.std.proofs.Common.{refl}
use Rattle.lk_typed.specs.Addresses.{value}
use Rattle.lk_typed.specs.Meaning.{meaning}
use Rattle.lk_check_unit.proofs.Returned.{conversion_told, value_stands}
use Rattle.lk_check_unit.proofs.seen.seen.Goals as goal

pub returns-clause-seen : goal.returns-clause-seen
returns-clause-seen c = λ x is address.
    let v = value_stands c.args.types.now c.args.typing.now c.value-v.result x c.value-v.ensures.value is in
    record {
      type = v.type;
      text = refl;
      word = refl;
      conversion = conversion_told c.args.types.now c.value-v.result (meaning c.args.types.now c.args.target.now.ty) c.convert_code.result c.convert_code.ensures (value x) v;
      constant = c.is_constant.ensures x is v address;
    }
