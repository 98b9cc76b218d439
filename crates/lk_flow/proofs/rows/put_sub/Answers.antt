use Rattle.std.proofs.lemmas.Result.{IfOk-weaker}
use Rattle.lk_facts.specs.EdgeRules.{Of}
use Rattle.lk_facts.specs.LabelRules.{IsWhole}
use Rattle.lk_types.specs.declared.node.Sel.TheVariants.{Target}
use Rattle.lk_flow.proofs.Finders.{joined}
use Rattle.lk_flow.proofs.rows.put_sub.Goals as goal

pub returns : goal.returns
returns c =
    let program = c.args.points.now in
    let names = c.args.labels.now.names in
    let different = c.requires.labels.different in
    IfOk-weaker c.put.result _ _ (λ _ adds. joined names different c.args.mark.now (Of program (IsWhole program c.args.from) Target) (Of program (IsWhole program c.args.to) Target) c.pointee-from.result c.pointee-to.result c.args.found.now c.put.new.self
    c.pointee-from.ensures.found c.pointee-to.ensures.found adds) c.put.ensures
