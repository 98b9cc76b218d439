use Rattle.std.proofs.Common.{◌≡◌, ◌++◌, take}
use Rattle.std.specs.List.{flat_map}
use Rattle.lk_rise.specs.PointItems.{items_from}
use Rattle.lk_rise.proofs.point_items.Below.push_by_link.Given as goal

abbrev pub invariant-loop-number : goal.invariant-loop-number
invariant-loop-number l = l.found.items ≡ l.initial.found.items ++ flat_map (items_from l.self.facts.now.origins l.self.items.now l.link) (take l.number-index l.number-items)
