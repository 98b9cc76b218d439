use Rattle.std.proofs.Common.{◌≡◌, take}
use Rattle.std.specs.Prelude.{map}
use Rattle.lk_lower_parts.specs.Givens.{object_here}
use Rattle.lk_lower_parts.proofs.names.Given.objects.Given as goal

abbrev pub invariant-loop-here : goal.invariant-loop-here
invariant-loop-here l = l.objects.items ≡ map (object_here l.self) (take l.here-index l.here-items)
