use Rattle.std.proofs.Common.{◌≡◌, ◌++◌, drop}
use Rattle.lk_lower_parts.specs.Found.{all_found}
use Rattle.lk_lower_parts.specs.Wanted.{seen, owned_by_statics}
use Rattle.lk_lower_parts.proofs.roots.SourceAt.owned_by_statics.Given as goal

abbrev pub invariant-loop-object : goal.invariant-loop-object
invariant-loop-object l = owned_by_statics (seen l.self) l.object-items ≡ all_found l.owned.items ++ owned_by_statics (seen l.self) (drop l.object-index l.object-items)
