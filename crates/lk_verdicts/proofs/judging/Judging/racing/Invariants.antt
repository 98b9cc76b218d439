use Rattle.lk_facts.specs.Facts.{basis_of}
use Rattle.std.proofs.Common.{◌≡◌, map, take, All}
use Rattle.lk_facts.specs.Lists.{Lists}
use Rattle.lk_facts.specs.Verdicts.{InLockSet}
use Rattle.lk_facts.specs.declared.verdict.Racing.{Racing}
use Rattle.lk_rise.specs.Correlations.{has_of, locks_of}
use Rattle.lk_sets.specs.Ids.{has_id}
use Rattle.lk_verdicts.proofs.judging.Judging.racing.Given as goal

abbrev pub invariant-loop-access : goal.invariant-loop-access
invariant-loop-access l = record {
  accesses : map (λ (r : Racing). r.access) l.racing.items ≡ map (λ (r : Racing). r.access) (take l.access-index l.access-items);
  sets : All (λ (r : Racing). Lists (InLockSet (basis_of l.self.facts.now) (has_of l.self.conflicts.now.entries) (locks_of l.self.conflicts.now.entries) (has_id l.self.linear.now) l.location r.access) r.locks) l.racing.items;
}
