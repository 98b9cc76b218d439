use Rattle.std.proofs.Common.{subst}
use Rattle.lk_typed.specs.Typings.{IsResult}
use Rattle.lk_check_unit.proofs.Asked.{value_told}
use Rattle.lk_check_unit.proofs.asking.value_type.Goals as goal

pub returns-in-Some-clause-value : goal.returns-in-Some-clause-value
returns-in-Some-clause-value c = λ x found.
    value_told c.args.types.now c.in-Some.typing c.value.result x c.value.ensures.value (subst (λ t. IsResult c.args.types.now t x) c.in-Some.is found)
