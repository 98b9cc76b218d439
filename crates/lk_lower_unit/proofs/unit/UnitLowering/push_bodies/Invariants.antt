use Rattle.std.proofs.Common.{◌≡◌, ◌++◌, drop}
use Rattle.lk_lower_unit.specs.Bodies.{IsSameSource, names_by_locals, places_by_locals, steps_of_bodies}
use Rattle.lk_lower_unit.proofs.unit.UnitLowering.push_bodies.Given as goal

abbrev pub invariant-loop-body : goal.invariant-loop-body
invariant-loop-body g l =
    let all = steps_of_bodies (names_by_locals l.self.unit.now.types l.initial.names) (places_by_locals (g.N.Nodes.node l.self.nodes.now) l.initial.names) in record {
      added : l.initial.out.items ++ all l.self.first l.self.unit.now.bodies ≡ l.out.items ++ all l.function (drop l.body-index l.body-items);
      kept : IsSameSource l.initial.names l.names;
    }
