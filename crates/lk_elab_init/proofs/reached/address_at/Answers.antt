use Rattle.std.proofs.Common.{◌∙◌}
use Rattle.lk_elab_init.proofs.reached.address_at.Goals as goal

pub returns-in-Ok : goal.returns-in-Ok
returns-in-Ok c = λ p same true_of.
    let has = c.in-Ok.ensures.kept p same true_of in
    record { typing = has.typing; has = has.has; is = c.address_kept.ensures ∙ has.address }
