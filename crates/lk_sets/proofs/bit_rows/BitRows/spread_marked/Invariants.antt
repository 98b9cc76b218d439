use Rattle.std.proofs.Common.{◌≡◌, All, length}
use Rattle.std.specs.Prelude.{⊤}
use Rattle.lk_sets.specs.Closing.{absent, Going}
use Rattle.lk_sets.specs.Marks.{PassesOrWaits}
use Rattle.lk_sets.specs.Spread.{IsSound}
use Rattle.lk_sets.proofs.bit_rows.BitRows.spread_marked.Given as goal

abbrev pub invariant-loop-marks : goal.invariant-loop-marks
invariant-loop-marks l = record {
  going : Going (IsSound l.arrows l.initial.self) (λ _. ⊤) l.initial.self l.self l.changed;
  long : length l.marks.items ≡ l.self.size;
  waits : All (PassesOrWaits l.marks.items l.self) l.arrows;
}

abbrev pub decreases-loop-marks : goal.decreases-loop-marks
decreases-loop-marks l = absent l.self
