use Rattle.std.proofs.Common.{◌≡◌, ℕ, length, Some}
use Rattle.std.specs.List.{slice_get}
use Rattle.lk_facts.specs.Facts.{basis_of}
use Rattle.lk_facts.specs.Verdicts.{IsVerdictOf}
use Rattle.lk_facts.specs.declared.verdict.Verdict.{Verdict}
use Rattle.lk_rise.specs.Correlations.{has_of, locks_of}
use Rattle.lk_sets.specs.Ids.{has_id}
use Rattle.lk_verdicts.proofs.judging.verdicts.Given as goal

abbrev pub invariant-loop-location : goal.invariant-loop-location
invariant-loop-location l = record {
  each : length l.verdicts.items ≡ l.location;
  are : (o : ℕ) (verdict : Verdict) → slice_get l.verdicts.items o ≡ Some verdict →
      IsVerdictOf (basis_of l.fn.facts) (has_of l.fn.conflicts.entries) (locks_of l.fn.conflicts.entries) (has_id l.fn.linear) o verdict;
}
