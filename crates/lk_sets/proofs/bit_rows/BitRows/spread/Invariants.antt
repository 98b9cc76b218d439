use Rattle.lk_sets.specs.Closing.{absent}
use Rattle.lk_sets.specs.Spread.{IsSound}
use Rattle.lk_sets.proofs.Closing.{Grown}
use Rattle.lk_sets.proofs.bit_rows.BitRows.spread.Given as goal

abbrev pub invariant-loop : goal.invariant-loop
invariant-loop l = Grown (IsSound l.arrows l.initial.self) l.initial.self l.self

abbrev pub decreases-loop : goal.decreases-loop
decreases-loop l = absent l.self
