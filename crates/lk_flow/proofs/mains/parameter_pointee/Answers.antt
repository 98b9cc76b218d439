use Rattle.std.proofs.Common.{◌∙◌, subst, sym}
use Rattle.lk_facts.specs.EdgeRules.{Of, parameter}
use Rattle.lk_types.specs.declared.node.Sel.TheVariants.{Target}
use Rattle.lk_flow.specs.Finding.{Finds}
use Rattle.lk_flow.proofs.ActionLists.{a_parameter, no_parameter}
use Rattle.lk_flow.proofs.mains.parameter_pointee.Goals as goal

pub returns-in_err-param : goal.returns-in_err-param
returns-in_err-param c =
    let program = c.args.points.now in
    let names = c.args.labels.now.names in
    subst (Finds names (Of program (parameter program c.args.f c.args.k) Target)) (sym c.from_residual.ensures) (no_parameter program names c.args.f c.args.k (sym c.in_err-param.was ∙ c.param.ensures.value))

pub returns : goal.returns
returns c = a_parameter c.args.points.now c.args.labels.now.names c.args.f c.args.k c.in_ok-param.field-0 c.pointee.result c.in_ok-param.ensures.value c.pointee.ensures.found
