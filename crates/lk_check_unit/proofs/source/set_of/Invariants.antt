use Rattle.std.proofs.Common.{drop}
use Rattle.lk_check_unit.proofs.Sets.{IsLeft}
use Rattle.lk_check_unit.proofs.source.set_of.Given as goal

abbrev pub invariant-loop-name : goal.invariant-loop-name
invariant-loop-name l = IsLeft l.names l.list (drop l.name-index l.list)
