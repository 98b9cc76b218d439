use Rattle.std.proofs.Common.{ℕ, ◌<◌}
use Rattle.lk_facts.specs.Facts.{IsLabelOf}
use Rattle.lk_facts.proofs.facts.Facts.fits.Given as goal

abbrev pub invariant-loop-l : goal.invariant-loop-l
invariant-loop-l l = (x : ℕ) → x < l.l → IsLabelOf l.points l.labels x
