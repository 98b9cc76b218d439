use Rattle.std.proofs.Common.{◌&&◌, take}
use Rattle.lk_sets.specs.Ids.{has_id, IsSetOf}
use Rattle.lk_verdicts.specs.Judging.{in_all}
use Rattle.lk_verdicts.proofs.judging.meet_all.Given as goal

abbrev pub invariant-loop-access : goal.invariant-loop-access
invariant-loop-access l = IsSetOf (λ q. has_id l.fn.ids q && in_all (take l.access-index l.accesses) q) l.common
