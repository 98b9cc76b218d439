use Rattle.std.proofs.Common.{All, take}
use Rattle.lk_rise.specs.PointItems.{StartsNothing}
use Rattle.lk_rise.proofs.point_items.Below.may_start.Given as goal

abbrev pub invariant-loop-link : goal.invariant-loop-link
invariant-loop-link l = All (StartsNothing l.self.items.now) (take l.link-index l.links)
