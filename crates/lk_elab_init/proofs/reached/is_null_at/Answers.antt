use Rattle.std.proofs.Common.{◌∙◌}
use Rattle.lk_elab_init.proofs.reached.is_null_at.Goals as goal

pub returns-in-Ok : goal.returns-in-Ok
returns-in-Ok c = λ p same true_of.
    let has = c.in-Ok.ensures.value p same true_of in
    record { typing = has.typing; has = has.found; is = c.is_null.ensures ∙ has.is.null }
