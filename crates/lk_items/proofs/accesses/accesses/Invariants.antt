use Rattle.lk_items.specs.Accesses.{AreAccessesBelow}
use Rattle.lk_items.proofs.accesses.accesses.Given as goal

abbrev pub invariant-loop-point : goal.invariant-loop-point
invariant-loop-point l = AreAccessesBelow l.facts l.held l.point l.base.items
