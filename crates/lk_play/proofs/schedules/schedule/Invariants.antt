use Rattle.std.proofs.Common.{◌+◌, ◌≤◌, length}
use Rattle.lk_play.proofs.Turns.{Stands}
use Rattle.lk_play.proofs.schedules.schedule.Given as goal

-- the turns so far are those of the lines before what is left
abbrev pub invariant-loop-turns : goal.invariant-loop-turns
invariant-loop-turns l =
    record {
      stands : Stands l.bytes l.turns.items l.number l.rest;
      fits : l.number + length l.rest ≤ 65537;
    }

abbrev pub decreases-loop-turns : goal.decreases-loop-turns
decreases-loop-turns l = length l.rest
