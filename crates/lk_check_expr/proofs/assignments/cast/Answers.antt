use Rattle.std.proofs.Common.{◌≡◌}
use Rattle.lk_typed.specs.Addresses.{value}
use Rattle.lk_typed.specs.Conversions.{cast_codes, converted}
use Rattle.lk_typed.specs.Codes.{least_code}
use Rattle.lk_typed.specs.Meaning.{meaning}
use Rattle.lk_typed.specs.Typings.{typing, IsTyping}
use Rattle.lk_typed.proofs.Verdicts.{then_each, unless_verdict}
use Rattle.lk_check_expr.proofs.assignments.cast.Goals as goal

pub returns : goal.returns
returns c = λ p.
    let table = c.args.types.now in
    let x = typing table c.args.e.now p in
    let target = meaning table c.args.target in
    let v = c.value-v.ensures.value p in
    let code = then_each table c.value-v.result (value x) (λ v. c.cast_code-code.result ≡ least_code (cast_codes target v)) v c.cast_code-code.ensures in
    let typed = then_each table c.value-v.result (value x) (λ v. IsTyping table c.converted-typed.result (converted target v)) v c.converted-typed.ensures in
    unless_verdict table c.converted-typed.result (cast_codes target (value x)) (converted target (value x)) c.unless.ensures code typed
