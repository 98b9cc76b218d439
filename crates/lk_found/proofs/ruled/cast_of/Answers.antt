use Rattle.lk_typed.specs.Addresses.{value}
use Rattle.lk_typed.specs.Assignments.{cast_rule}
use Rattle.lk_typed.specs.Meaning.{meaning}
use Rattle.lk_typed.specs.Typings.{IsVerdict}
use Rattle.lk_typed.proofs.Verdicts.{then_each}
use Rattle.lk_found.specs.Addresses.{cast_address}
use Rattle.lk_found.proofs.GivenAddresses.{cast_gives}
use Rattle.lk_found.proofs.Rules.{addressed, valued}
use Rattle.lk_found.proofs.ruled.cast_of.Goals as goal

pub returns : goal.returns
returns c = λ x operand.
    let table = c.args.types.now in
    let target = meaning table c.args.target in
    let v = valued table c.args.a.now x c.value-operand.result c.value-operand.ensures.value operand.typing in
    addressed table c.cast-verdict.result c.cast-address.result (cast_rule target x) (cast_address target (value x))
    (then_each table c.args.a.now x (λ x. IsVerdict table c.cast-verdict.result (cast_rule target x)) operand.typing c.cast-verdict.ensures)
    (cast_gives target x) (c.cast-address.ensures (value x) v (c.value_address-operand_at.ensures x operand.typing operand.address))
