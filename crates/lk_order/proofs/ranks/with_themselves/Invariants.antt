use Rattle.std.proofs.Common.{◌≡◌, ◌<◌, ℕ, false, get_or, length}
use Rattle.lk_sets.specs.Rows.{has}
use Rattle.lk_order.proofs.ranks.with_themselves.Given as goal

abbrev pub invariant-loop-place : goal.invariant-loop-place
invariant-loop-place l = record {
  long : length l.cycles.items ≡ l.place;
  each : (k : ℕ) → k < l.place → get_or l.cycles.items k false ≡ has l.rows k k;
}
