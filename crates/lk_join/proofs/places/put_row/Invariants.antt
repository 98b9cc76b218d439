use Rattle.std.proofs.Common.{take}
use Rattle.lk_join.specs.Places.{ArePutAt}
use Rattle.lk_join.proofs.places.put_row.Given as goal

abbrev pub invariant-loop-s : goal.invariant-loop-s
invariant-loop-s l = ArePutAt l.initial.set l.set (take l.s-index l.row) l.places.items
