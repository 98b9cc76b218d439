use Rattle.lk_typed.specs.StatementRules as rule
use Rattle.lk_check_unit.proofs.Asked.{asks}
use Rattle.lk_check_unit.proofs.asking.condition.Goals as goal

pub returns-clause-asks : goal.returns-clause-asks
returns-clause-asks c =
    asks c.args.checker.now c.operand.new.checker c.args.e.now rule.condition_rules c.in_ok-typing.typing c.value_type-ty.result _ c.in_ok-typing.ensures.walks c.in_ok-typing.ensures.found
    c.value_type-ty.ensures.value c.is_some.ensures c.condition_code.ensures
