use Rattle.lk_typed.specs.Addresses.{value}
use Rattle.lk_typed.specs.Operators.{binary_rule}
use Rattle.lk_typed.specs.Typings.{structs_in, IsVerdict}
use Rattle.lk_typed.proofs.Verdicts.{then_both}
use Rattle.lk_found.specs.Addresses.{binary_address}
use Rattle.lk_found.proofs.GivenAddresses.{binary_gives}
use Rattle.lk_found.proofs.Rules.{addressed, valued}
use Rattle.lk_found.proofs.ruled.binary_of.Goals as goal

pub returns : goal.returns
returns c = λ x y first second.
    let table = c.args.types.now in
    let structs = structs_in table c.args.structs.now in
    let v = valued table c.args.a.now x c.value-first.result c.value-first.ensures.value first.typing in
    let w = valued table c.args.b.now y c.value-second.result c.value-second.ensures.value second in
    let at = c.value_address-first_at.ensures x first.typing first.address in
    addressed table c.binary-verdict.result c.binary-address.result (binary_rule structs c.args.op (value x) (value y)) (binary_address c.args.op (value x) (value y))
    (then_both table c.value-first.result c.value-second.result (value x) (value y) (λ x y. IsVerdict table c.binary-verdict.result (binary_rule structs c.args.op x y)) v w c.binary-verdict.ensures)
    (binary_gives structs c.args.op (value x) (value y)) (c.binary-address.ensures (value x) (value y) v w at)
