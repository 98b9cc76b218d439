use Rattle.lk_link.specs.Absent.{AreLeast}
use Rattle.lk_link.proofs.Lacking.{IsUsedBelow}
use Rattle.lk_link.proofs.absent.users.Given as goal

abbrev pub invariant-loop-at : goal.invariant-loop-at
invariant-loop-at l = AreLeast (IsUsedBelow l.units l.externals l.at-index) l.users
