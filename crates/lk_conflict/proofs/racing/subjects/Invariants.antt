use Rattle.std.proofs.Common.{◌≡◌, take}
use Rattle.lk_conflict.specs.Listing.{subjects_of}
use Rattle.lk_conflict.proofs.racing.subjects.Given as goal

abbrev pub invariant-loop-i : goal.invariant-loop-i
invariant-loop-i l = l.keys.items ≡ subjects_of (take l.i l.items)
