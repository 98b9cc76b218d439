use Rattle.std.proofs.Common.{◌≡◌, ◌<◌, ℕ, [], length, get_or}
use Rattle.lk_facts.specs.Facts.{basis_of}
use Rattle.lk_facts.specs.Verdicts.{AreRacing}
use Rattle.lk_rise.specs.Conflicts.{every_place}
use Rattle.lk_rise.specs.Correlations.{has_of, locks_of}
use Rattle.lk_conflict.proofs.racing.racing_lists.Given as goal

abbrev pub invariant-loop-location : goal.invariant-loop-location
invariant-loop-location l = record {
  each : length l.racing.items ≡ l.location;
  are : (o : ℕ) → o < l.location → AreRacing (basis_of l.fn.facts) (has_of l.fn.items) (locks_of l.fn.items) every_place o (get_or l.racing.items o []);
}
