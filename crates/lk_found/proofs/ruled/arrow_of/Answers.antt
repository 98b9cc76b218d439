use Rattle.lk_typed.specs.Addresses.{value}
use Rattle.lk_typed.specs.Places.{arrow_rule}
use Rattle.lk_typed.specs.Typings.{structs_in, IsVerdict}
use Rattle.lk_typed.proofs.Verdicts.{then_each}
use Rattle.lk_found.proofs.GivenAddresses.{arrow_gives}
use Rattle.lk_found.proofs.Rules.{membered, valued}
use Rattle.lk_found.proofs.ruled.arrow_of.Goals as goal

pub returns : goal.returns
returns c = λ x operand.
    let table = c.args.types.now in
    let structs = structs_in table c.args.structs.now in
    let v = valued table c.args.a.now x c.value-pointer.result c.value-pointer.ensures.value operand.typing in
    let at = c.value_address-pointer_at.ensures x operand.typing operand.address in
    membered table c.arrow-verdict.result c.member-address.result (arrow_rule structs (value x) c.args.name.now) (value x).address
    (then_each table c.value-pointer.result (value x) (λ x. IsVerdict table c.arrow-verdict.result (arrow_rule structs x c.args.name.now)) v c.arrow-verdict.ensures)
    (arrow_gives structs (value x) c.args.name.now) (λ k. c.member-address.ensures k (value x).address at)
