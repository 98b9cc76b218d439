use Rattle.std.proofs.Common.{subst, sym}
use Rattle.lk_facts.specs.EdgeRules.{Of}
use Rattle.lk_facts.specs.LabelRules.{IsPart, Steps}
use Rattle.lk_types.specs.declared.node.Sel.TheVariants.{Field, Target}
use Rattle.lk_flow.specs.Finding.{FindsFrom}
use Rattle.lk_flow.proofs.NamedLabels.{behind_from}
use Rattle.lk_flow.proofs.names.behind.Goals as goal

pub returns-clause-found : goal.returns-clause-found
returns-clause-found c =
    let program = c.args.points.now in
    let labels = c.args.labels.now in
    let name = c.name_of-name.result in
    let found = c.in_ok-base.field-0 in
    let steps = subst (λ table. Steps table name.node (Field c.args.k) found) c.types-types.ensures (record { node = c.in_ok-base.ensures.node; leads = sym c.in_ok-base.ensures.exact }) in
    subst (λ l. FindsFrom labels.names (λ x. Of program (IsPart program x (Field c.args.k)) Target) l c.node_target.result) (sym c.in_ok-l.was)
    (behind_from program labels c.requires.labels c.in_ok-l.field-0 name (Field c.args.k) found c.node_target.result c.name_of-name.ensures.name steps c.node_target.ensures.found)
