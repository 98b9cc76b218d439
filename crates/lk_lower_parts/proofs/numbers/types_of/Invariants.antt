use Rattle.std.proofs.Common.{◌≡◌, take}
use Rattle.lk_lower_parts.specs.Gathers.{types_of}
use Rattle.lk_lower_parts.proofs.numbers.types_of.Given as goal

abbrev pub invariant-loop-slot : goal.invariant-loop-slot
invariant-loop-slot l = l.types.items ≡ types_of (take l.slot-index l.list)
