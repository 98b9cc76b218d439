use Rattle.std.proofs.Common.{◌≡◌, ◌↔◌, ◌⊎◌, true, ℕ, Contains, take}
use Rattle.lk_sets.specs.Closing.{Grows}
use Rattle.lk_sets.specs.Rows.{has}
use Rattle.lk_match.specs.Summaries.{summary_of}
use Rattle.lk_match.proofs.level.put_all.Given as goal

abbrev pub invariant-loop-summary : goal.invariant-loop-summary
invariant-loop-summary l = record {
  pairs : (a b : ℕ) → (has l.rows a b ≡ true) ↔ ((has l.initial.rows a b ≡ true) ⊎ Contains (take l.summary-index l.found) (summary_of a b));
  grows : Grows l.initial.rows l.rows l.changed;
}
