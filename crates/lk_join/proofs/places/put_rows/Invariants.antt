use Rattle.std.proofs.Common.{take}
use Rattle.lk_join.specs.Places.{AreAllPutAt}
use Rattle.lk_join.proofs.places.put_rows.Given as goal

abbrev pub invariant-loop-row : goal.invariant-loop-row
invariant-loop-row l = AreAllPutAt l.initial.set l.set (take l.row-index l.rows) l.places.items
