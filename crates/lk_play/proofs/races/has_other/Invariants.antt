use Rattle.std.proofs.Common.{◌<◌, ◌≢◌, ℕ}
use Rattle.lk_play.specs.Calls.{IsAt, touched_at}
use Rattle.lk_play.proofs.races.has_other.Given as goal

-- no other thread so far touches the cell
abbrev pub invariant-loop-other : goal.invariant-loop-other
invariant-loop-other l = (u : ℕ) → u < l.other → u ≢ l.thread → IsAt (touched_at l.touches u) l.cell → ⊥
