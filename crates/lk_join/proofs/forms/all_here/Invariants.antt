use Rattle.std.proofs.Common.{take}
use Rattle.std.specs.List.{AllZip}
use Rattle.lk_join.specs.Forms.{IsHere}
use Rattle.lk_join.proofs.forms.all_here.Given as goal

abbrev pub invariant-loop-t : goal.invariant-loop-t
invariant-loop-t l = AllZip (IsHere l.row) (take l.t-index l.types) l.list.items
