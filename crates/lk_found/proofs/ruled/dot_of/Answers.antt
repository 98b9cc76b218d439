use Rattle.lk_typed.specs.Places.{dot_rule}
use Rattle.lk_typed.specs.Typings.{structs_in, IsVerdict}
use Rattle.lk_typed.proofs.Verdicts.{then_each}
use Rattle.lk_found.proofs.GivenAddresses.{dot_gives}
use Rattle.lk_found.proofs.Rules.{membered}
use Rattle.lk_found.proofs.ruled.dot_of.Goals as goal

pub returns : goal.returns
returns c = λ x operand.
    let table = c.args.types.now in
    let structs = structs_in table c.args.structs.now in
    membered table c.dot-verdict.result c.member-address.result (dot_rule structs x c.args.name.now) x.address
    (then_each table c.args.a.now x (λ x. IsVerdict table c.dot-verdict.result (dot_rule structs x c.args.name.now)) operand.typing c.dot-verdict.ensures)
    (dot_gives structs x c.args.name.now) (λ k. c.member-address.ensures k x.address operand.address)
