use Rattle.std.proofs.lemmas.Result.{IfOk-weaker}
use Rattle.lk_elaborate.proofs.static_values.truth_for.Goals as goal

pub returns-in-Bool : goal.returns-in-Bool
returns-in-Bool c = IfOk-weaker c.truth.result _ _ (λ z says. (c.in-Bool.is, says)) c.truth.ensures
