use Rattle.std.proofs.Common.{◌∙◌, sym}
use Rattle.std.proofs.lemmas.Result.{IfOk-weaker}
use Rattle.lk_elaborator.proofs.members.number_of.Goals as goal

pub returns : goal.returns
returns c = IfOk-weaker c.number_in.result _ _ (λ k is p same true_of.
    let has = c.in_ok-typing.ensures.typing p same true_of in
    record { s = is.s; typing = has.typing; found = has.found; type = sym has.is.type ∙ is.type; number = is.number }) c.number_in.ensures
