use Rattle.std.proofs.Common.{◌≡◌, Some, take}
use Rattle.std.specs.List.{filter_map}
use Rattle.lk_facts.specs.Program.{function_at}
use Rattle.lk_links.specs.Making.{value_link}
use Rattle.lk_links.proofs.links.links_to_values.Given as goal

abbrev pub invariant-loop-below : goal.invariant-loop-below
invariant-loop-below l = l.links.items ≡ filter_map (value_link l.facts.program l.point l.above) (take l.below-index l.below-items)
