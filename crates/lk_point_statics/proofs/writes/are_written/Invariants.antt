use Rattle.std.proofs.Common.{◌≤◌, length}
use Rattle.lk_point_statics.specs.Writing.{IsBegun}
use Rattle.lk_point_statics.proofs.Beginning.{AllBefore}
use Rattle.lk_point_statics.proofs.writes.are_written.Given as goal

abbrev pub invariant-loop-initial : goal.invariant-loop-initial
invariant-loop-initial l = record {
  within : l.next ≤ length l.writes;
  written : AllBefore (IsBegun l.points) l.points.initials l.initial-index;
}
