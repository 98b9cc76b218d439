use Rattle.std.proofs.Common.{◌∙◌, ap}
use Rattle.std.proofs.lemmas.Result.{IfOk-weaker}
use Rattle.lk_elaborator.specs.Leading.{entity_by}
use Rattle.lk_elab_expr.proofs.names.entity_at.Goals as goal

pub returns-in-Ok : goal.returns-in-Ok
returns-in-Ok c = IfOk-weaker c.declared_at.result _ _ (λ entity at p same true_of.
    let is = c.in-Ok.ensures p same true_of in (is.declared, is.stands, ap (entity_by c.args.walk.now) is.ordinal ∙ at)) c.declared_at.ensures
