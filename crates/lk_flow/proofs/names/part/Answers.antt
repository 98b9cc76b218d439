use Rattle.std.proofs.Common.{subst, sym}
use Rattle.lk_facts.specs.LabelRules.{Steps}
use Rattle.lk_flow.proofs.NamedLabels.{part_found}
use Rattle.lk_flow.proofs.names.part.Goals as goal

pub returns-clause-found : goal.returns-clause-found
returns-clause-found c =
    let program = c.args.points.now in
    let found = c.in_ok-base.field-0 in
    let steps = subst (λ table. Steps table c.args.name.now.node c.args.sel found) c.types.ensures (record { node = c.in_ok-base.ensures.node; leads = sym c.in_ok-base.ensures.exact }) in
    part_found program c.args.labels.now c.requires.labels c.args.name.now c.args.sel found c.label_of.result steps.node (sym steps.leads) c.label_of.ensures.found
