use Rattle.std.proofs.Common.{◌≡◌, None, subst, sym}
use Rattle.lk_facts.specs.LabelRules.{Steps}
use Rattle.lk_types.specs.Nodes.{node_of, step}
use Rattle.lk_types.specs.Table.{Table}
use Rattle.lk_types.specs.declared.node.Sel.TheVariants.{Target}
use Rattle.lk_flow.specs.Finding.{FindsTarget}
use Rattle.lk_flow.specs.Finding.FindsTarget.{nowhere, somewhere}
use Rattle.lk_flow.proofs.names.node_target.Goals as goal

pub returns-in_err-base-clause-found : goal.returns-in_err-base-clause-found
returns-in_err-base-clause-found c =
    subst (FindsTarget c.args.points.now.types c.args.labels.now.names c.args.holder c.args.node.now) (sym c.from_residual.ensures)
    (nowhere (subst (λ (table : Table). None ≡ step table (node_of table c.args.node.now) Target) c.types.ensures c.in_err-base.ensures.exact))

pub returns-clause-found : goal.returns-clause-found
returns-clause-found c =
    let found = c.in_ok-base.field-0 in
    let steps = subst (λ table. Steps table c.args.node.now Target found) c.types.ensures (record { node = c.in_ok-base.ensures.node; leads = sym c.in_ok-base.ensures.exact }) in
    somewhere found c.label_of.result steps c.label_of.ensures.found
