use Rattle.std.proofs.lemmas.Result.{IfOk-weaker}
use Rattle.lk_facts.specs.EdgeRules.{place, target}
use Rattle.lk_facts.specs.declared.edge.Mark.TheVariants.{Plain}
use Rattle.lk_flow.proofs.Finders.{joined}
use Rattle.lk_flow.proofs.rows.put_address.Goals as goal

pub returns : goal.returns
returns c =
    let program = c.args.points.now in
    let names = c.args.labels.now.names in
    let different = c.requires.labels.different in
    IfOk-weaker c.put.result _ _ (λ _ adds. joined names different Plain (place program c.args.r) (target program c.args.p) c.place-from.result c.pointee-to.result c.args.found.now c.put.new.self
    c.place-from.ensures.found c.pointee-to.ensures.found adds) c.put.ensures
