use Rattle.std.proofs.Common.{ap, ◌∙◌, ◌++◌}
use Rattle.lk_lower_unit.proofs.Adding.{bodies_more, one_more, same_steps, same_then}
use Rattle.lk_lower_unit.specs.Bodies.{names_by_locals, places_by_locals, steps_of_bodies}
use Rattle.lk_lower_unit.proofs.unit.UnitLowering.push_bodies.Goals as goal

pub loop-body-preserved : goal.loop-body-preserved
loop-body-preserved g c =
    let table = c.args.self.now.unit.now.types in
    let node = g.N.Nodes.node c.args.self.now.nodes.now in
    let all = steps_of_bodies (names_by_locals table c.args.names.now) (places_by_locals node c.args.names.now) in record {
      added =
          one_more c.args.out.now.items (all c.args.self.now.first c.args.self.now.unit.now.bodies) c.loop-body.out.items _ _ _ _ c.loop-body.invariant.added
          (bodies_more (names_by_locals table c.args.names.now) (places_by_locals node c.args.names.now) c.loop-body.function c.in_ok-function.function c.loop-body.body-index c.list-body-items.result.now c.body-item.result
          c.loop-body-test.true c.body-item.is c.in_ok-function.ensures)
          (c.in_ok-push_body.ensures.steps ∙ ap (λ xs. c.loop-body.out.items ++ xs) (same_steps c.args.names.now c.loop-body.names c.loop-body.invariant.kept table node c.loop-body.function c.body-item.result));
      kept = same_then _ _ _ c.loop-body.invariant.kept c.in_ok-push_body.ensures.kept;
    }
