use Rattle.std.proofs.lemmas.Result.{IfOk-weaker}
use Rattle.lk_facts.specs.EdgeRules.{IsInside}
use Rattle.lk_flow.proofs.Finders.{joined}
use Rattle.lk_flow.proofs.close.put_inside.Goals as goal

pub returns : goal.returns
returns c =
    let program = c.args.points.now in
    let names = c.args.labels.now.names in
    let different = c.requires.labels.different in
    IfOk-weaker c.put.result _ _ (λ _ adds u v ends. joined names different c.args.edge.now.mark (IsInside program u c.args.sel.now) (IsInside program v c.args.sel.now) c.inside-from.result c.inside-to.result c.args.found.now c.put.new.self
    (c.inside-from.ensures.found u ends.begins) (c.inside-to.ensures.found v ends.ends) adds) c.put.ensures
