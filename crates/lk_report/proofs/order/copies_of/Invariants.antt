use Rattle.std.proofs.Common.{◌≡◌, take}
use Rattle.lk_report.proofs.order.copies_of.Given as goal

abbrev pub invariant-loop-racing : goal.invariant-loop-racing
invariant-loop-racing l = l.copies.items ≡ take l.racing-index l.accesses
