use Rattle.std.proofs.Common.{◌≡◌, map, take}
use Rattle.lk_rise.specs.Conflicts.{race_in}
use Rattle.lk_rise.proofs.conflicts.all_races.Given as goal

abbrev pub invariant-loop-i : goal.invariant-loop-i
invariant-loop-i l = l.races.items ≡ map race_in (take l.i l.found)
