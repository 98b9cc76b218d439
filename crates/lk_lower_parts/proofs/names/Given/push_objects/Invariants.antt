use Rattle.std.proofs.Common.{◌≡◌, ◌++◌, drop}
use Rattle.lk_lower_parts.specs.Givens.{objects_by}
use Rattle.lk_lower_parts.proofs.names.Given.push_objects.Given as goal

abbrev pub invariant-loop-object : goal.invariant-loop-object
invariant-loop-object l =
    let objects = objects_by l.self l.linked l.by_node in
    l.initial.out.items ++ objects l.linked.unit.objects ≡ l.out.items ++ objects (drop l.object-index l.object-items)
