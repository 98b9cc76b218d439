use Rattle.lk_typed.specs.Places as spec
use Rattle.lk_typed.specs.Typings.{typing, IsVerdict}
use Rattle.lk_typed.proofs.Verdicts.{then_each}
use Rattle.lk_check_expr.proofs.places.prefix.Goals as goal

pub returns : goal.returns
returns c = λ p.
    let table = c.args.types.now in
    let x = typing table c.args.e.now p in
    then_each table c.operand_of-operand.result (spec.operand_of c.args.op x) (λ y. IsVerdict table c.rule_of.result (spec.rule_of c.args.op y))
    (c.operand_of-operand.ensures.value p) c.rule_of.ensures
