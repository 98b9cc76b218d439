use Rattle.std.proofs.Common.{◌≡◌, take}
use Rattle.lk_rise.specs.Links.{going_into}
use Rattle.lk_order.proofs.into.going_into.Given as goal

abbrev pub invariant-loop-link : goal.invariant-loop-link
invariant-loop-link l = l.into.items ≡ going_into (take l.link-index l.all) l.function
