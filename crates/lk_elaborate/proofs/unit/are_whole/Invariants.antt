use Rattle.std.proofs.Common.{take}
use Rattle.std.specs.Prelude.{All}
use Rattle.lk_elaborate.specs.Finishing.{IsWhole}
use Rattle.lk_elaborate.proofs.unit.are_whole.Given as goal

abbrev pub invariant-loop-members : goal.invariant-loop-members
invariant-loop-members l = All IsWhole (take l.members-index l.structs)
