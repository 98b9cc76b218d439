use Rattle.lk_typed.specs.Places.{prefix_rule}
use Rattle.lk_typed.specs.Typings.{IsVerdict}
use Rattle.lk_typed.proofs.Verdicts.{then_each}
use Rattle.lk_found.specs.Addresses.{prefix_address}
use Rattle.lk_found.proofs.GivenAddresses.{prefix_gives}
use Rattle.lk_found.proofs.Rules.{addressed}
use Rattle.lk_found.proofs.ruled.prefix_of.Goals as goal

pub returns : goal.returns
returns c = λ x operand.
    let table = c.args.types.now in
    addressed table c.prefix-verdict.result c.prefix-address.result (prefix_rule c.args.op x) (prefix_address c.args.op x)
    (then_each table c.args.a.now x (λ x. IsVerdict table c.prefix-verdict.result (prefix_rule c.args.op x)) operand.typing c.prefix-verdict.ensures)
    (prefix_gives c.args.op x) (c.prefix-address.ensures x operand.typing operand.address)
