use Rattle.std.proofs.Common.{subst, sym}
use Rattle.lk_facts.specs.EdgeRules.{IsInside, place}
use Rattle.lk_types.specs.declared.node.Sel.TheVariants.{Element}
use Rattle.lk_flow.specs.Finding.{Finds}
use Rattle.lk_flow.specs.Rows.{object_of}
use Rattle.lk_flow.proofs.Finders.{through}
use Rattle.lk_flow.proofs.rows.object.Goals as goal

pub returns-then-is_array-clause-found : goal.returns-then-is_array-clause-found
returns-then-is_array-clause-found c =
    let program = c.args.points.now in
    let names = c.args.labels.now.names in
    subst (λ array. Finds names (object_of program c.args.r array) c.inside.result) (sym c.if-is_array.true) (through names (place program c.args.r) (λ x. IsInside program x Element) c.place-object.result c.inside.result c.place-object.ensures.found c.inside.ensures.found)

pub returns-clause-found : goal.returns-clause-found
returns-clause-found c = subst (λ array. Finds c.args.labels.now.names (object_of c.args.points.now c.args.r array) c.place-object.result) (sym c.if-is_array.false) c.place-object.ensures.found
