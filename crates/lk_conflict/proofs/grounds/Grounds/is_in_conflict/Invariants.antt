use Rattle.std.proofs.Common.{◌≡◌, false, take}
use Rattle.lk_sets.specs.Rows.{has}
use Rattle.lk_conflict.specs.Kinds.{is_in_conflict}
use Rattle.lk_conflict.proofs.grounds.Grounds.is_in_conflict.Given as goal

abbrev pub invariant-loop-other : goal.invariant-loop-other
invariant-loop-other l = is_in_conflict (has l.self.after.now) (take l.other-index l.others) l.kind ≡ false
