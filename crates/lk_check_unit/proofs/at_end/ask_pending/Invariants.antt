use Rattle.std.proofs.Common.{drop}
use Rattle.lk_check_unit.proofs.AtEnd.{AreLeft}
use Rattle.lk_check_unit.proofs.at_end.ask_pending.Given as goal

abbrev pub invariant-loop-pending : goal.invariant-loop-pending
invariant-loop-pending l = AreLeft l.initial.checker l.checker l.list (drop l.pending-index l.list)
