use Rattle.lk_point_statics.specs.Writing.{NoneBegins}
use Rattle.lk_point_statics.proofs.writes.write_among.Given as goal

-- none of the writes so far is that of the cell
abbrev pub invariant-loop-place : goal.invariant-loop-place
invariant-loop-place l = NoneBegins l.points l.fn.initial l.writes l.first l.place
