use Rattle.std.proofs.Common.{length}
use Rattle.lk_held.specs.Acts.{basis_in}
use Rattle.lk_held.specs.Releasing.{AreSets, AreSound, room}
use Rattle.lk_held.proofs.acts.Acts.released.Given as goal

abbrev pub invariant-loop-released : goal.invariant-loop-released
invariant-loop-released l = AreSets (basis_in l.self) l.released.items × AreSound (basis_in l.self) l.released.items

abbrev pub decreases-loop-released : goal.decreases-loop-released
decreases-loop-released l = room (length l.self.labels.now.entries) l.released.items
