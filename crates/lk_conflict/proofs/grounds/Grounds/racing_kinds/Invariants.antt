use Rattle.std.proofs.Common.{take}
use Rattle.lk_sets.specs.Rows.{has}
use Rattle.lk_conflict.proofs.KindLemmas.{AreRacingAmong}
use Rattle.lk_conflict.proofs.grounds.Grounds.racing_kinds.Given as goal

abbrev pub invariant-loop-kind : goal.invariant-loop-kind
invariant-loop-kind l = AreRacingAmong (has l.self.after.now) l.kind-items (take l.kind-index l.kind-items) l.racing.keys
