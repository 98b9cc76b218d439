use Rattle.std.proofs.lemmas.Result.{IfOk-weaker}
use Rattle.lk_elab_init.proofs.reached.value_kept_at.Goals as goal

pub returns-in-Ok : goal.returns-in-Ok
returns-in-Ok c = IfOk-weaker c.value_kept.result _ _ (λ value is p same true_of.
    let has = c.in-Ok.ensures.kept p same true_of in
    record { typing = has.typing; has = has.has; is = is has.typing has.is has.address }) c.value_kept.ensures
