use Rattle.std.proofs.Common.{refl, subst, sym}
use Rattle.lk_facts.specs.LabelRules.{IsPart}
use Rattle.lk_types.specs.declared.node.Sel.TheVariants.{Target}
use Rattle.lk_flow.specs.Finding.{FindsFrom}
use Rattle.lk_flow.proofs.NamedLabels.{part_from}
use Rattle.lk_flow.proofs.names.target.Goals as goal

pub returns-clause-found : goal.returns-clause-found
returns-clause-found c =
    let program = c.args.points.now in
    let labels = c.args.labels.now in
    subst (λ l. FindsFrom labels.names (λ x. IsPart program x Target) l c.part.result) (sym c.in_ok-l.was)
    (part_from program labels c.requires.labels c.in_ok-l.field-0 c.name_of-name.result Target c.part.result c.name_of-name.ensures.name refl c.part.ensures.found)
