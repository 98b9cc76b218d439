use Rattle.std.proofs.Common.{◌<◌, ℕ, length, get_or}
use Rattle.lk_link.specs.Clashes.{IsToldBefore}
use Rattle.lk_link.specs.declared.clash.Clash.{Clash}
use Rattle.lk_link.proofs.clash.first_told.Given as goal

abbrev pub invariant-loop-place : goal.invariant-loop-place
invariant-loop-place l = (l.best < length l.clashes) × ((k : ℕ) (d : Clash) → k < l.place → IsToldBefore (get_or l.clashes k d) (get_or l.clashes l.best d) → ⊥)
