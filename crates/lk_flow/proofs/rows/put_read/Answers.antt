use Rattle.std.proofs.lemmas.Result.{IfOk-weaker}
use Rattle.lk_facts.specs.EdgeRules.{Of, target}
use Rattle.lk_facts.specs.LabelRules.{IsPart, IsWhole}
use Rattle.lk_facts.specs.declared.edge.Mark.TheVariants.{Plain}
use Rattle.lk_facts.specs.declared.root.Holder.TheVariants.{Point}
use Rattle.lk_types.specs.declared.node.Sel.TheVariants.{Target}
use Rattle.lk_flow.proofs.Finders.{joined, through}
use Rattle.lk_flow.proofs.rows.put_read.Goals as goal

pub returns : goal.returns
returns c =
    let program = c.args.points.now in
    let names = c.args.labels.now.names in
    let different = c.requires.labels.different in
    let from = through names (target program c.args.a) (λ x. IsPart program x Target) c.pointee-place.result c.target-from.result c.pointee-place.ensures.found c.target-from.ensures.found in
    IfOk-weaker c.put.result _ _ (λ _ adds. joined names different Plain (Of program (target program c.args.a) Target) (Of program (IsWhole program (Point c.args.p)) Target) c.target-from.result c.pointee-to.result c.args.found.now c.put.new.self
    from c.pointee-to.ensures.found adds) c.put.ensures
