use Rattle.lk_facts.specs.Facts.{basis_of}
use Rattle.std.proofs.Common.{◌≡◌, map, take, All}
use Rattle.lk_facts.specs.Lists.{Lists}
use Rattle.lk_facts.specs.Verdicts.{InLockSet}
use Rattle.lk_facts.specs.declared.verdict.Racing.{Racing}
use Rattle.lk_rise.specs.Conflicts.{every_place}
use Rattle.lk_rise.specs.Correlations.{has_of, locks_of}
use Rattle.lk_conflict.proofs.places.Races.racing.Given as goal

abbrev pub invariant-loop-access : goal.invariant-loop-access
invariant-loop-access l = record {
  accesses : map (λ (r : Racing). r.access) l.racing.items ≡ take l.access-index l.access-items;
  sets : All (λ (r : Racing). Lists (InLockSet (basis_of l.self.facts.now) (has_of l.self.items.now) (locks_of l.self.items.now) every_place l.location r.access) r.locks) l.racing.items;
}
