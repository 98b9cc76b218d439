use Rattle.std.proofs.Common.{◌≡◌, ◌++◌, drop}
use Rattle.std.specs.Prelude.{map}
use Rattle.lk_lower_parts.specs.Givens.{initial_by}
use Rattle.lk_lower_parts.proofs.names.Given.push_object.Given as goal

abbrev pub invariant-loop-part : goal.invariant-loop-part
invariant-loop-part l =
    let initial = initial_by l.self l.linked l.by_node l.root in
    l.initial.out.items ++ map initial l.object.parts ≡ l.out.items ++ map initial (drop l.part-index l.part-items)
