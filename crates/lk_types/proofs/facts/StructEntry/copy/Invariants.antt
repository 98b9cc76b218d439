use Rattle.std.proofs.Common.{◌≡◌, take}
use Rattle.lk_types.proofs.facts.StructEntry.copy.Given as goal

abbrev pub invariant-loop-member : goal.invariant-loop-member
invariant-loop-member l = l.members.items ≡ take l.member-index l.self.members
