use Rattle.lk_typed.specs.Assignments.{assign_rule}
use Rattle.lk_typed.specs.Typings.{structs_in}
use Rattle.lk_found.proofs.Rules.{two_some}
use Rattle.lk_found.proofs.ruled.assign_ruled.Goals as goal

pub returns-in-Some-typing : goal.returns-in-Some-typing
returns-in-Some-typing c = λ x y first second.
    let table = c.args.types.now in
    let rule = assign_rule (structs_in table c.args.structs.now) c.args.op in
    two_some table c.args.a.now c.args.b.now c.in-Some.first c.in-Some-typing.second x y c.assign_of.result (λ u v. rule u v) c.in-Some.is c.in-Some-typing.is first second
    (λ u v p q. c.assign_of.ensures u v p.typing q.typing)
