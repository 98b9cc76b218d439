use Rattle.std.proofs.Common.{◌≡◌, take}
use Rattle.std.specs.Prelude.{map}
use Rattle.lk_lower_parts.specs.Givens.{is_defined}
use Rattle.lk_lower_parts.proofs.names.Given.defined.Given as goal

abbrev pub invariant-loop-here : goal.invariant-loop-here
invariant-loop-here l = l.defined.items ≡ map (is_defined l.self) (take l.here-index l.here-items)
