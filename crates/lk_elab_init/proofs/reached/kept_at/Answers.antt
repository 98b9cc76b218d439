use Rattle.std.proofs.lemmas.Result.{IfOk-weaker}
use Rattle.lk_elab_init.proofs.AddressesByForm.{found_kept}
use Rattle.lk_elab_init.proofs.reached.kept_at.Goals as goal

pub returns-in-Ok-clause-kept : goal.returns-in-Ok-clause-kept
returns-in-Ok-clause-kept c = IfOk-weaker c.kept_of.result _ _ (λ kept is p same true_of.
    found_kept c.args.walk.now.types p c.in-Ok.found kept (c.in-Ok.ensures.found p same true_of) is.0 is.1) c.kept_of.ensures
