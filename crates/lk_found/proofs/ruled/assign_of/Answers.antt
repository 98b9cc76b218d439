use Rattle.lk_typed.specs.Assignments.{assign_rule}
use Rattle.lk_typed.specs.Typings.{structs_in, IsVerdict}
use Rattle.lk_typed.proofs.Verdicts.{then_both}
use Rattle.lk_found.proofs.GivenAddresses.{assign_gives}
use Rattle.lk_found.proofs.Rules.{plainly}
use Rattle.lk_found.proofs.ruled.assign_of.Goals as goal

pub returns : goal.returns
returns c = λ x y first second.
    let table = c.args.types.now in
    let structs = structs_in table c.args.structs.now in
    plainly table c.assign-verdict.result c.plain.result (assign_rule structs c.args.op x y) c.plain.ensures.verdict c.plain.ensures.address
    (then_both table c.args.a.now c.args.b.now x y (λ x y. IsVerdict table c.assign-verdict.result (assign_rule structs c.args.op x y)) first second c.assign-verdict.ensures)
    (assign_gives structs c.args.op x y)
