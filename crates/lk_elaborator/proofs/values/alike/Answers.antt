use Rattle.std.proofs.Common.{refl}
use Rattle.lk_elaborator.proofs.Conversions.{made_value}
use Rattle.lk_elaborator.proofs.values.alike.Goals as goal

pub returns-clause-value : goal.returns-clause-value
returns-clause-value c = λ p same true_of tables leads folded t is.
    made_value tables folded p _ t refl (c.in_ok-valued.ensures.value p same true_of tables leads folded) is
