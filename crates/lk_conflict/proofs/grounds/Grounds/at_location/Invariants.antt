use Rattle.std.proofs.Common.{◌≡◌, take}
use Rattle.lk_conflict.specs.Listing.{at_location}
use Rattle.lk_conflict.proofs.grounds.Grounds.at_location.Given as goal

abbrev pub invariant-loop-item : goal.invariant-loop-item
invariant-loop-item l = l.found.items ≡ at_location l.self.items.now.facts.origins l.location (take l.item-index l.items)
