use Rattle.std.proofs.Common.{◌≡◌, take}
use Rattle.std.specs.Prelude.{map}
use Rattle.lk_lower_parts.specs.Givens.{function_here}
use Rattle.lk_lower_parts.proofs.names.Given.functions.Given as goal

abbrev pub invariant-loop-here : goal.invariant-loop-here
invariant-loop-here l = l.functions.items ≡ map (function_here l.self) (take l.here-index l.here-items)
