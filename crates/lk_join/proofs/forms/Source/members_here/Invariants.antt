use Rattle.std.proofs.Common.{take}
use Rattle.std.specs.List.{AllZip}
use Rattle.lk_join.specs.Forms.{IsMember}
use Rattle.lk_join.proofs.forms.Source.members_here.Given as goal

abbrev pub invariant-loop-member : goal.invariant-loop-member
invariant-loop-member l = AllZip (IsMember l.row) (take l.member-index l.member-items) l.members.items
