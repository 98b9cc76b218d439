use Rattle.std.proofs.Common.{◌≡◌, ◌++◌, drop}
use Rattle.lk_lower_expr.specs.Naming.{names_of}
use Rattle.lk_lower_unit.specs.Bodies.{steps_of_statics}
use Rattle.lk_lower_unit.proofs.unit.UnitLowering.push_statics.Given as goal

abbrev pub invariant-loop-object : goal.invariant-loop-object
invariant-loop-object g l =
    let all = steps_of_statics (λ _. names_of l.self.unit.now.types l.names) l.self.none l.self.unit.now.entities in
    l.initial.out.items ++ all l.self.unit.now.objects ≡ l.out.items ++ all (drop l.object-index l.object-items)
