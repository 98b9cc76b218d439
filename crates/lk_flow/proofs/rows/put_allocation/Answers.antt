use Rattle.std.proofs.lemmas.Result.{IfOk-weaker}
use Rattle.lk_facts.specs.EdgeRules.{In, IsInside, target}
use Rattle.lk_facts.specs.declared.edge.Mark.TheVariants.{Plain}
use Rattle.lk_types.specs.declared.node.Sel.TheVariants.{Part}
use Rattle.lk_flow.specs.Rows.{object_of}
use Rattle.lk_flow.proofs.Finders.{joined, through}
use Rattle.lk_flow.proofs.rows.put_allocation.Goals as goal

pub returns : goal.returns
returns c =
    let program = c.args.points.now in
    let names = c.args.labels.now.names in
    let to = through names (target program c.args.p) (λ x. IsInside program x (Part c.args.ty)) c.pointee-void.result c.inside-to.result c.pointee-void.ensures.found c.inside-to.ensures.found in
    IfOk-weaker c.put.result _ _ (λ _ adds r is_array from. joined names c.requires.labels.different Plain (object_of program r is_array) (In program (target program c.args.p) (Part c.args.ty)) c.args.object c.inside-to.result c.args.found.now c.put.new.self from to adds) c.put.ensures
