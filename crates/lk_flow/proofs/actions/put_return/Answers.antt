use Rattle.std.proofs.Common.{None, subst, sym}
use Rattle.std.specs.Prelude.{OnOk}
use Rattle.std.proofs.lemmas.Result.{IfOk-weaker}
use Rattle.lk_facts.specs.EdgeRules.{Of, Returns, result, value}
use Rattle.lk_facts.specs.declared.edge.Mark.TheVariants.{Plain}
use Rattle.lk_types.specs.declared.node.Sel.TheVariants.{Target}
use Rattle.lk_flow.specs.Growing.{Adds, Joins}
use Rattle.lk_flow.proofs.Finders.{joined, joins_none}
use Rattle.lk_flow.proofs.actions.put_return.Goals as goal

pub returns-in-Some : goal.returns-in-Some
returns-in-Some c =
    let program = c.args.points.now in
    let names = c.args.labels.now.names in
    let different = c.requires.labels.different in
    subst (λ a. OnOk c.put.result (Adds (Joins names (Returns program c.args.f a)) c.args.found.now c.put.new.self)) (sym c.in-Some.is)
    (IfOk-weaker c.put.result _ _ (λ _ adds. joined names different Plain (Of program (value program c.in-Some.a) Target) (Of program (result program c.args.f) Target) c.pointee-from.result c.result_pointee-to.result c.args.found.now c.put.new.self c.pointee-from.ensures.found c.result_pointee-to.ensures adds) c.put.ensures)

pub returns-in-None : goal.returns-in-None
returns-in-None c =
    subst (λ a. Adds (Joins c.args.labels.now.names (Returns c.args.points.now c.args.f a)) c.args.found.now c.args.found.now) (sym c.in-None.is) (joins_none c.args.labels.now.names (Returns c.args.points.now c.args.f None) c.args.found.now (λ u v m is. is))
