use Rattle.std.proofs.Common.{◌≡◌, ◌<◌, ℕ, false, get_or}
use Rattle.lk_order.proofs.finding.some_on.Given as goal

-- none so far is
abbrev pub invariant-loop-on : goal.invariant-loop-on
invariant-loop-on l = (k : ℕ) → k < l.on-index → get_or l.cycles k false ≡ false
