use Rattle.std.proofs.Common.{◌≡◌, ◌++◌, drop}
use Rattle.lk_lower_parts.specs.Wanted.{seen, objects_from}
use Rattle.lk_lower_parts.proofs.roots.SourceAt.push_objects.Given as goal

abbrev pub invariant-loop-entity : goal.invariant-loop-entity
invariant-loop-entity l = l.initial.roots.items ++ objects_from (seen l.self) 0 l.entity-items ≡ l.roots.items ++ objects_from (seen l.self) l.e (drop l.entity-index l.entity-items)
