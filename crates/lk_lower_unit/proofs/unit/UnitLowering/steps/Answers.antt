use Rattle.std.proofs.Common.{◌∙◌}
use Rattle.lk_lower_unit.proofs.Adding.{all_added}
use Rattle.lk_lower_unit.proofs.Sources.{are_steps}
use Rattle.lk_lower_unit.proofs.TableNames.{stand_in}
use Rattle.lk_lower_unit.specs.Bodies.{names_by_locals, places_by_locals, steps_of_bodies}
use Rattle.lk_lower_unit.proofs.unit.UnitLowering.steps.Goals as goal

pub returns-clause-steps : goal.returns-clause-steps
returns-clause-steps g c =
    let unit = c.args.self.now.unit.now in
    let names = names_by_locals unit.types c.args.names.now in
    let places = places_by_locals (g.N.Nodes.node c.args.self.now.nodes.now) c.args.names.now in
    are_steps names places unit c.args.self.now.first c.args.self.now.none c.push_bodies.new.out.items
    (all_added unit.types c.args.names.now c.new-2.result c.args.self.now.none unit.entities unit.objects c.new-steps.result.items c.push_statics.new.out.items c.push_bodies.new.out.items
    (steps_of_bodies names places c.args.self.now.first unit.bodies) (c.new-2.ensures ∙ c.new.ensures.items) c.new-steps.ensures.items c.in_ok-push_statics.ensures c.in_ok-push_bodies.ensures.steps)

pub returns-clause-programs : goal.returns-clause-programs
returns-clause-programs g c =
    stand_in c.args.self.now.unit.now (g.N.Nodes.node c.args.self.now.nodes.now) c.args.self.now.first c.args.self.now.none c.args.names.now c.push_bodies.new.out.items (returns-clause-steps g c)
