use Rattle.std.proofs.Common.{◌≡◌, take}
use Rattle.std.specs.List.{flat_map}
use Rattle.lk_conflict.specs.Listing.{access_at}
use Rattle.lk_conflict.proofs.places.Races.accesses.Given as goal

abbrev pub invariant-loop-number : goal.invariant-loop-number
invariant-loop-number l = l.accesses.items ≡ flat_map (access_at l.main l.self.items.now) (take l.number-index l.number-items)
