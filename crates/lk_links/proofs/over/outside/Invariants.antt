use Rattle.std.proofs.Common.{◌≡◌, take}
use Rattle.std.specs.List.{flat_map}
use Rattle.lk_links.specs.Only.{over_list}
use Rattle.lk_links.proofs.over.outside.Given as goal

abbrev pub invariant-loop-x : goal.invariant-loop-x
invariant-loop-x l = l.ids.items ≡ flat_map (over_list l.facts.origins l.way) (take l.x-index l.labels)
