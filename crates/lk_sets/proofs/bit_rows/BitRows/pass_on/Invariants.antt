use Rattle.std.proofs.Common.{All, take}
use Rattle.lk_sets.specs.Rows.{Rows}
use Rattle.lk_sets.specs.Closing.{Going}
use Rattle.lk_sets.specs.Spread.{IsSound, PassesOn}
use Rattle.lk_sets.proofs.bit_rows.BitRows.pass_on.Given as goal

abbrev pub invariant-loop-arrow : goal.invariant-loop-arrow
invariant-loop-arrow l =
    (first : Rows) → Going (IsSound l.arrows first) (λ r. All (PassesOn r) (take l.arrow-index l.arrows)) l.initial.self l.self l.changed
