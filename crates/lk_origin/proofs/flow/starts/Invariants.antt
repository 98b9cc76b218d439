use Rattle.std.proofs.Common.{◌≡◌, ◌<◌, ℕ, true, length}
use Rattle.lk_facts.specs.Labels.{is_origin_at}
use Rattle.lk_sets.specs.Rows.{has}
use Rattle.lk_origin.proofs.flow.starts.Given as goal

abbrev pub invariant-loop-number : goal.invariant-loop-number
invariant-loop-number l = record {
  size : l.rows.size ≡ length l.labels.entries;
  origins : (o : ℕ) → o < l.number → is_origin_at l.labels o ≡ true → has l.rows o o ≡ true;
  alone : (b o : ℕ) → has l.rows b o ≡ true → (is_origin_at l.labels b ≡ true) × (b ≡ o);
}
