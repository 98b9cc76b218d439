use Rattle.std.proofs.Common.{sym, subst}
use Rattle.std.proofs.lemmas.Result.{IfOk-weaker}
use Rattle.lk_typed.specs.StaticInits.{IsPointerTo}
use Rattle.lk_elaborate.proofs.static_values.pointer_value.Goals as goal

pub returns : goal.returns
returns c = IfOk-weaker c.pointer_to.result _ _ (λ v says tables leads at_end p same told x own.
    subst (λ a. IsPointerTo tables a v) (sym (c.in_ok-address.ensures at_end p same told x own)) (says tables leads)) c.pointer_to.ensures
