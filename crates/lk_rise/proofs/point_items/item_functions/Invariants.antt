use Rattle.std.proofs.Common.{◌≡◌, take}
use Rattle.lk_rise.specs.PointItems.{functions_of}
use Rattle.lk_rise.proofs.point_items.item_functions.Given as goal

abbrev pub invariant-loop-i : goal.invariant-loop-i
invariant-loop-i l = l.keys.items ≡ functions_of (take l.i l.items)
