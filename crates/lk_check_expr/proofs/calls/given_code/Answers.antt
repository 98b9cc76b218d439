use Rattle.std.proofs.Common.{◌≡◌}
use Rattle.lk_typed.specs.Addresses.{value}
use Rattle.lk_typed.specs.Codes.{least_code}
use Rattle.lk_typed.specs.Conversions.{conversion_codes}
use Rattle.lk_typed.specs.Meaning.{meaning_of}
use Rattle.lk_typed.specs.Typings.{typing}
use Rattle.lk_typed.proofs.Verdicts.{then_each}
use Rattle.lk_check_expr.proofs.calls.given_code.Goals as goal

pub returns : goal.returns
returns c = λ p.
    let table = c.args.types.now in
    then_each table c.value-v.result (value (typing table c.args.e.now p)) (λ v. c.convert_code.result ≡ least_code (conversion_codes (meaning_of table c.args.target.now) v)) (c.value-v.ensures.value p) c.convert_code.ensures
