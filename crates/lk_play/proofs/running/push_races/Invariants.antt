use Rattle.std.proofs.Common.{◌≡◌, ◌++◌, take}
use Rattle.lk_play.specs.Races.{race_lines}
use Rattle.lk_play.proofs.running.push_races.Given as goal

-- the locations so far are told
abbrev pub invariant-loop-location : goal.invariant-loop-location
invariant-loop-location l = l.lines.items ≡ l.initial.lines.items ++ race_lines l.before (take l.location-index l.ids)
