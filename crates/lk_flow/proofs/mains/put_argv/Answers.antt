use Rattle.std.proofs.Common.{subst}
use Rattle.std.proofs.lemmas.Result.{IfOk-weaker}
use Rattle.lk_facts.specs.EdgeRules.{In, IsInside, Of, parameter, place}
use Rattle.lk_facts.specs.declared.edge.Mark.TheVariants.{Plain}
use Rattle.lk_types.specs.declared.node.Sel.TheVariants.{Element, Target}
use Rattle.lk_flow.specs.Finding.{Finds}
use Rattle.lk_flow.proofs.Finders.{joined, through}
use Rattle.lk_flow.proofs.mains.put_argv.Goals as goal

pub returns : goal.returns
returns c =
    let program = c.args.points.now in
    let names = c.args.labels.now.names in
    let different = c.requires.labels.different in
    let from = through names (place program c.args.r) (λ x. IsInside program x Element) c.place-place.result c.inside-from.result c.place-place.ensures.found c.inside-from.ensures.found in
    let to = subst (λ f. Finds names (Of program (parameter program f 2) Target) c.parameter_pointee-to.result) c.main.ensures.value c.parameter_pointee-to.ensures in
    IfOk-weaker c.put.result _ _ (λ _ adds. joined names different Plain (In program (place program c.args.r) Element) (Of program (parameter program program.main 2) Target) c.inside-from.result c.parameter_pointee-to.result c.args.found.now c.put.new.self from to adds) c.put.ensures
