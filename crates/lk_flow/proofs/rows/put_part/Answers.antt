use Rattle.std.proofs.lemmas.Result.{IfOk-weaker}
use Rattle.lk_facts.specs.EdgeRules.{In, IsInside, target}
use Rattle.lk_facts.specs.declared.edge.Mark.TheVariants.{Plain}
use Rattle.lk_flow.proofs.Finders.{joined, through}
use Rattle.lk_flow.proofs.rows.put_part.Goals as goal

pub returns : goal.returns
returns c =
    let program = c.args.points.now in
    let names = c.args.labels.now.names in
    let different = c.requires.labels.different in
    let from = through names (target program c.args.a) (λ x. IsInside program x c.args.sel) c.pointee-place.result c.inside-from.result c.pointee-place.ensures.found c.inside-from.ensures.found in
    IfOk-weaker c.put.result _ _ (λ _ adds. joined names different Plain (In program (target program c.args.a) c.args.sel) (target program c.args.p) c.inside-from.result c.pointee-to.result c.args.found.now c.put.new.self
    from c.pointee-to.ensures.found adds) c.put.ensures
