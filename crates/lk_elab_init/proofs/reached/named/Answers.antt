use Rattle.std.proofs.Common.{◌∙◌, sym}
use Rattle.std.proofs.lemmas.Result.{IfOk-weaker}
use Rattle.lk_elab_init.proofs.reached.named.Goals as goal

pub returns-in-Some : goal.returns-in-Some
returns-in-Some c = IfOk-weaker c.declared.result _ _ (λ r says p same true_of.
    let is = true_of.meant c.in-Some.meant (rw same (sym c.meant.ensures ∙ c.in-Some.is)) in
    record { declared = is.declared; stands = is.stands; address = says c.args.walk.now.types is.declared is.ordinal is.meaning }) c.declared.ensures
