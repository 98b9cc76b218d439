use Rattle.std.proofs.Common.{◌≡◌, take}
use Rattle.std.specs.Prelude.{map}
use Rattle.lk_lower_parts.specs.MadeFunctions.{holder_in}
use Rattle.lk_lower_parts.proofs.functions.Made.parameters.Given as goal

abbrev pub invariant-loop-local : goal.invariant-loop-local
invariant-loop-local l = l.parameters.items ≡ map (holder_in l.self.number l.self.by_node.now) (take l.local-index l.local-items)
