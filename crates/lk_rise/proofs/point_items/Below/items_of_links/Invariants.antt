use Rattle.std.proofs.Common.{◌≡◌, take}
use Rattle.std.specs.List.{flat_map}
use Rattle.lk_rise.specs.PointItems.{items_by}
use Rattle.lk_rise.proofs.point_items.Below.items_of_links.Given as goal

abbrev pub invariant-loop-link : goal.invariant-loop-link
invariant-loop-link l = l.found.items ≡ flat_map (items_by l.self.facts.now.origins l.self.items.now l.self.numbers) (take l.link-index l.links)
