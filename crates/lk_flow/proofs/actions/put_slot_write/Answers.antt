use Rattle.std.proofs.lemmas.Result.{IfOk-weaker}
use Rattle.lk_facts.specs.EdgeRules.{Of, slot, value}
use Rattle.lk_facts.specs.declared.edge.Mark.TheVariants.{Plain}
use Rattle.lk_types.specs.declared.node.Sel.TheVariants.{Target}
use Rattle.lk_flow.proofs.Finders.{joined}
use Rattle.lk_flow.proofs.actions.put_slot_write.Goals as goal

pub returns : goal.returns
returns c =
    let program = c.args.points.now in
    let names = c.args.labels.now.names in
    let different = c.requires.labels.different in
    IfOk-weaker c.put.result _ _ (λ _ adds. joined names different Plain (Of program (value program c.args.a) Target) (Of program (slot program c.args.f c.args.s) Target) c.pointee-from.result c.slot_pointee-to.result c.args.found.now c.put.new.self c.pointee-from.ensures.found c.slot_pointee-to.ensures adds) c.put.ensures
