use Rattle.std.proofs.Common.{sym, subst}
use Rattle.std.proofs.lemmas.Result.{IfOk-weaker}
use Rattle.lk_typed.specs.StaticInits.{IsTruthOf}
use Rattle.lk_elaborate.proofs.static_values.truth.Goals as goal

pub returns : goal.returns
returns c = IfOk-weaker c.truth_of.result _ _ (λ z says at_end p same told x own tables.
    subst (λ a. IsTruthOf tables a z) (sym (c.in_ok-address.ensures at_end p same told x own)) (says tables)) c.truth_of.ensures
