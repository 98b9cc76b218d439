use Rattle.std.proofs.Common.{◌≡◌, ◌++◌, map, take}
use Rattle.lk_rise.specs.PointItems.{risen_item_of}
use Rattle.lk_rise.proofs.point_items.Below.push_risen.Given as goal

abbrev pub invariant-loop-subject : goal.invariant-loop-subject
invariant-loop-subject l = l.found.items ≡ l.initial.found.items ++ map (risen_item_of l.fn.link l.fn.item) (take l.subject-index l.subject-items)
