use Rattle.std.proofs.Common.{ap, ◌∙◌, ◌++◌}
use Rattle.lk_lower_expr.specs.Naming.{names_of}
use Rattle.lk_lower_unit.proofs.Adding.{one_more, statics_more}
use Rattle.lk_lower_unit.specs.Bodies.{steps_of_statics}
use Rattle.lk_lower_unit.proofs.unit.UnitLowering.push_statics.Goals as goal

pub loop-object-preserved : goal.loop-object-preserved
loop-object-preserved g c =
    let unit = c.args.self.now.unit.now in
    let all = steps_of_statics (λ _. names_of unit.types c.args.names.now) c.args.self.now.none unit.entities in
    one_more c.args.out.now.items (all unit.objects) c.loop-object.out.items _ _ _ _ c.loop-object.invariant
    (statics_more (λ _. names_of unit.types c.args.names.now) c.args.self.now.none c.loop-object.object-index unit.entities c.list-object-items.result.now c.object-item.result c.loop-object-test.true c.object-item.is)
    (c.in_ok-add.ensures ∙ ap (λ xs. c.loop-object.out.items ++ xs) c.in_ok-steps.ensures)
