use Rattle.std.proofs.Common.{◌≡◌, map, take}
use Rattle.lk_rise.specs.Items.{item_in}
use Rattle.lk_rise.proofs.items.all_named.Given as goal

abbrev pub invariant-loop-i : goal.invariant-loop-i
invariant-loop-i l = l.items.items ≡ map (item_in l.facts.labels) (take l.i l.found)
