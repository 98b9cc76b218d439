use Rattle.lk_point_statics.specs.Writing.{AreWritesBefore}
use Rattle.lk_point_statics.proofs.writes.static_writes.Given as goal

abbrev pub invariant-loop-p : goal.invariant-loop-p
invariant-loop-p l = AreWritesBefore l.points l.p l.writes.items
