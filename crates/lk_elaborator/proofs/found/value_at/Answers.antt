use Rattle.std.proofs.Common.{subst}
use Rattle.lk_typed.specs.Addresses.{value}
use Rattle.lk_typed.specs.Typings.{ForEach, IsTyping}
use Rattle.lk_elaborator.proofs.Knowing.{value_has}
use Rattle.lk_elaborator.proofs.found.value_at.Goals as goal

pub returns-clause-value : goal.returns-clause-value
returns-clause-value c = λ p same true_of.
    value_has c.args.walk.now.types p c.in_ok-typing.typing c.value.result (c.in_ok-typing.ensures.typing p same true_of)
    (subst (λ table. ForEach table c.in_ok-typing.typing (λ x. IsTyping table c.value.result (value x))) c.table.ensures.value c.value.ensures.value)
