use Rattle.std.proofs.Common.{◌∙◌, ap, subst, sym}
use Rattle.lk_facts.specs.EdgeRules.{IsInside}
use Rattle.lk_facts.specs.LabelRules.{form_of, leads_inside}
use Rattle.lk_types.specs.Table.{Table, type_at}
use Rattle.lk_flow.specs.Finding.{FindsFrom}
use Rattle.lk_flow.proofs.NamedLabels.{inside_from, not_inside_from}
use Rattle.lk_flow.proofs.names.inside.Goals as goal

pub returns-then-not-leads_inside-clause-found : goal.returns-then-not-leads_inside-clause-found
returns-then-not-leads_inside-clause-found c =
    let program = c.args.points.now in
    let labels = c.args.labels.now in
    let name = c.name_of-name.result in
    let leads = c.leads_inside.ensures ∙ (ap (λ t. leads_inside (type_at c.types-types.result.now t) c.args.sel) c.node_type.ensures.value ∙ ap (λ (table : Table). leads_inside (form_of table name.node) c.args.sel) c.types-types.ensures) in
    subst (λ l. FindsFrom labels.names (λ x. IsInside program x c.args.sel) l _) (sym c.in_ok-l.was)
    (not_inside_from program labels c.requires.labels c.in_ok-l.field-0 name c.args.sel c.name_of-name.ensures.name (sym leads ∙ c.if-not-leads_inside.true))

pub returns-clause-found : goal.returns-clause-found
returns-clause-found c =
    let program = c.args.points.now in
    let labels = c.args.labels.now in
    let name = c.name_of-name.result in
    let leads = c.leads_inside.ensures ∙ (ap (λ t. leads_inside (type_at c.types-types.result.now t) c.args.sel) c.node_type.ensures.value ∙ ap (λ (table : Table). leads_inside (form_of table name.node) c.args.sel) c.types-types.ensures) in
    subst (λ l. FindsFrom labels.names (λ x. IsInside program x c.args.sel) l c.part.result) (sym c.in_ok-l.was)
    (inside_from program labels c.requires.labels c.in_ok-l.field-0 name c.args.sel c.part.result c.name_of-name.ensures.name (sym leads ∙ c.if-not-leads_inside.false) c.part.ensures.found)
