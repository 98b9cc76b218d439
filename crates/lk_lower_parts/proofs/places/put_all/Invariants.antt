use Rattle.std.proofs.Common.{◌≡◌, ◌++◌, take}
use Rattle.lk_lower_parts.proofs.places.put_all.Given as goal

abbrev pub invariant-loop-place : goal.invariant-loop-place
invariant-loop-place l = l.places ≡ l.initial.places ++ take l.place-index l.list
