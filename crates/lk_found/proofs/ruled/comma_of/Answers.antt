use Rattle.lk_typed.specs.Addresses.{value}
use Rattle.lk_typed.specs.Operators.{comma_rule}
use Rattle.lk_typed.specs.Typings.{IsVerdict}
use Rattle.lk_typed.proofs.Verdicts.{then_both}
use Rattle.lk_found.proofs.GivenAddresses.{comma_gives}
use Rattle.lk_found.proofs.Rules.{plainly, valued}
use Rattle.lk_found.proofs.ruled.comma_of.Goals as goal

pub returns : goal.returns
returns c = λ x y first second.
    let table = c.args.types.now in
    let v = valued table c.args.a.now x c.value-first.result c.value-first.ensures.value first in
    let w = valued table c.args.b.now y c.value-second.result c.value-second.ensures.value second in
    plainly table c.comma-verdict.result c.plain.result (comma_rule (value x) (value y)) c.plain.ensures.verdict c.plain.ensures.address
    (then_both table c.value-first.result c.value-second.result (value x) (value y) (λ x y. IsVerdict table c.comma-verdict.result (comma_rule x y)) v w c.comma-verdict.ensures)
    (comma_gives (value x) (value y))
