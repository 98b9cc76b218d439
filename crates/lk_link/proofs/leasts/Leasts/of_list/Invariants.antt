use Rattle.lk_link.specs.Absent.{AreLeast}
use Rattle.lk_link.proofs.Noting.{IsListedBelow}
use Rattle.lk_link.proofs.leasts.Leasts.of_list.Given as goal

abbrev pub invariant-loop-name : goal.invariant-loop-name
invariant-loop-name l = AreLeast (IsListedBelow l.names l.name-index) l.leasts
