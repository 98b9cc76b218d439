use Rattle.lk_typed.specs.StatementRules as rule
use Rattle.lk_check_unit.proofs.Asked.{asks, kind_by}
use Rattle.lk_check_unit.proofs.asking.switch_value.Goals as goal

pub returns-clause-asks : goal.returns-clause-asks
returns-clause-asks c =
    asks c.args.checker.now c.operand.new.checker c.args.e.now rule.switch_rules c.in_ok-typing.typing c.value_type-ty.result _ c.in_ok-typing.ensures.walks c.in_ok-typing.ensures.found
    c.value_type-ty.ensures.value c.is_some.ensures c.switch_code.ensures

pub returns-clause-kind : goal.returns-clause-kind
returns-clause-kind c =
    kind_by c.args.checker.now c.operand.new.checker.types c.args.e.now c.in_ok-typing.typing c.value_type-ty.result _ c.in_ok-typing.ensures.found c.value_type-ty.ensures.value c.value_kind-kind.ensures
