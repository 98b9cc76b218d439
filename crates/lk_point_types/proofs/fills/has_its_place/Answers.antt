use Rattle.std.proofs.Common.{arith, subst}
use Rattle.std.proofs.lemmas.Option.{none-some, same_Some}
use Rattle.lk_point_types.specs.Filled.{LeadsToNode}
use Rattle.lk_point_types.proofs.Filling.{few_steps, fills_there}
use Rattle.lk_point_types.proofs.Found.{never}
use Rattle.lk_point_types.proofs.fills.has_its_place.Goals as goal

pub returns-in-Some : goal.returns-in-Some
returns-in-Some c =
    let program = c.args.points.now in
    let fill = c.in-Fill in (
      (λ same. fills_there program c.args.action.now fill.a fill.place fill.named fill.is (subst (LeadsToNode program fill.a) (c.is_same_node.ensures.0 same) c.in-Some.ensures.leads)),
      (λ fills.
          let led = fills fill.a fill.place fill.named fill.is in
          let few = few_steps program (rw c.types.ensures at c.is_table.ensures) led.0 fill.a fill.place.node led.1 in
          c.is_same_node.ensures.1 (same_Some _ _ (c.in-Some.ensures.only led.0 fill.place.node led.1 (omega (arith, few))))),
    )

pub returns-in-None : goal.returns-in-None
returns-in-None c =
    let program = c.args.points.now in
    let fill = c.in-Fill in
    never (λ fills.
    let led = fills fill.a fill.place fill.named fill.is in
    let few = few_steps program (rw c.types.ensures at c.is_table.ensures) led.0 fill.a fill.place.node led.1 in
    none-some fill.place.node (c.in-None.ensures.only led.0 fill.place.node led.1 (omega (arith, few))))
