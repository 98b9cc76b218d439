use Rattle.lk_typed.specs.Places.{step_rule}
use Rattle.lk_typed.specs.Typings.{structs_in, IsVerdict}
use Rattle.lk_typed.proofs.Verdicts.{then_each}
use Rattle.lk_found.proofs.GivenAddresses.{step_rule_gives}
use Rattle.lk_found.proofs.Rules.{plainly}
use Rattle.lk_found.proofs.ruled.step_of.Goals as goal

pub returns : goal.returns
returns c = λ x operand.
    let table = c.args.types.now in
    let structs = structs_in table c.args.structs.now in
    plainly table c.step-verdict.result c.plain.result (step_rule structs x) c.plain.ensures.verdict c.plain.ensures.address
    (then_each table c.args.a.now x (λ x. IsVerdict table c.step-verdict.result (step_rule structs x)) operand c.step-verdict.ensures) (step_rule_gives structs x)
