use Rattle.std.proofs.Common.{refl, subst}
use Rattle.lk_facts.specs.LabelRules.{IsStart}
use Rattle.lk_flow.proofs.NamedLabels.{place_found, root_type}
use Rattle.lk_flow.proofs.names.place.Goals as goal

pub returns-clause-found : goal.returns-clause-found
returns-clause-found c =
    let program = c.args.points.now in
    let root = c.root.result.now in
    let start = c.start_node-start.result in
    let is = subst (λ table. IsStart table root.ty start) c.types.ensures (record { node = c.start_node-start.ensures.node; first = c.start_node-start.ensures.first }) in
    place_found program c.args.labels.now c.requires.labels c.args.r root.ty start c.find.result (root, c.root.ensures.value, refl)
    (root_type program c.args.labels.now c.requires.labels c.args.r root c.root.ensures.value) is.node is.first c.find.ensures.value
