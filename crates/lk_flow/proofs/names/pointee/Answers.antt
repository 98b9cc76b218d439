use Rattle.std.proofs.Common.{subst, sym}
use Rattle.lk_facts.specs.LabelRules.{IsStart, Steps}
use Rattle.lk_types.specs.declared.node.Sel.TheVariants.{Target}
use Rattle.lk_flow.proofs.NamedLabels.{pointee_found}
use Rattle.lk_flow.proofs.names.pointee.Goals as goal

pub returns-clause-found : goal.returns-clause-found
returns-clause-found c =
    let program = c.args.points.now in
    let t = c.in_ok-holder_type.field-0 in
    let start = c.start_node-start.result in
    let found = c.in_ok-base.field-0 in
    let is = subst (λ table. IsStart table t start) c.types-types.ensures (record { node = c.start_node-start.ensures.node; first = c.start_node-start.ensures.first }) in
    let steps = subst (λ table. Steps table start Target found) c.types-types.ensures (record { node = c.in_ok-base.ensures.node; leads = sym c.in_ok-base.ensures.exact }) in
    pointee_found program c.args.labels.now c.requires.labels c.args.holder t start found c.label_of.result c.in_ok-holder_type.ensures.exact is.node is.first steps.node (sym steps.leads) c.label_of.ensures.found
