use Rattle.std.proofs.lemmas.Result.{IfOk-weaker}
use Rattle.lk_facts.specs.LabelRules.{IsPart}
use Rattle.lk_types.specs.declared.node.Sel.TheVariants.{Target}
use Rattle.lk_flow.proofs.Finders.{joined}
use Rattle.lk_flow.proofs.close.put_target.Goals as goal

pub returns : goal.returns
returns c =
    let program = c.args.points.now in
    let names = c.args.labels.now.names in
    let different = c.requires.labels.different in
    IfOk-weaker c.put.result _ _ (λ _ adds u v u_at v_at.
    joined names different c.args.mark.now (IsPart program u Target) (IsPart program v Target) c.target-from.result c.target-to.result c.args.found.now c.put.new.self
    (c.target-from.ensures.found u u_at) (c.target-to.ensures.found v v_at) adds) c.put.ensures
