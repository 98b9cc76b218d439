use Rattle.std.proofs.Common.{take, All}
use Rattle.lk_rise.specs.Correlations.{IsEntryInRange}
use Rattle.lk_rise.proofs.rising.fits.Given as goal

abbrev pub invariant-loop-entry : goal.invariant-loop-entry
invariant-loop-entry l = All (IsEntryInRange l.facts l.below) (take l.entry-index l.based)
