use Rattle.std.proofs.Common.{drop}
use Rattle.lk_typed.specs.Units.{defined_in}
use Rattle.lk_check_unit.proofs.Sets.{IsLeft}
use Rattle.lk_check_unit.proofs.source.defined_in.Given as goal

abbrev pub invariant-loop-d : goal.invariant-loop-d
invariant-loop-d l = IsLeft l.names (defined_in l.list) (defined_in (drop l.d-index l.list))
