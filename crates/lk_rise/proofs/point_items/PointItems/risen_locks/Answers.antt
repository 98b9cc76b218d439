use Rattle.std.proofs.Common.{◌≡◌, ◌<◌, ◌↔◌, ◌⊎◌, ℕ, true, false, length, All, sym, subst}
use Rattle.lk_facts.specs.Flow.{RisesAs}
use Rattle.lk_facts.specs.LockSets.{keep_of}
use Rattle.lk_facts.specs.Origins.{IsSetBelow, flow_of}
use Rattle.lk_rise.specs.Correlations.{has_lock}
use Rattle.lk_rise.specs.PointItems.{PointTable}
use Rattle.lk_rise.proofs.AboveLemmas.{above_locks, locks_as}
use Rattle.lk_rise.proofs.point_items.PointItems.risen_locks.Goals as goal
use Rattle.lk_sets.specs.Ids.{has_id}

pub with_kept-requires-clause-point : goal.with_kept-requires-clause-point
with_kept-requires-clause-point c =
    let within = subst (λ (t : PointTable). c.args.point < length t.facts.program.points) (sym c.self.view_is) c.requires in
    subst (λ n. c.args.point < n) (sym c.self.invariant.held_points) within

pub with_kept-requires-clause-risen : goal.with_kept-requires-clause-risen
with_kept-requires-clause-risen c = record {
  sorted = c.in_ok-risen.ensures.exact.sorted;
  below = subst (λ n. All (λ x. x < n) c.in_ok-risen.risen) (sym c.self.invariant.held_labels) c.in_ok-risen.ensures.in_range;
}

pub returns-clause-members : goal.returns-clause-members
returns-clause-members c = λ x.
    let facts = c.self.inside.below.facts.now in
    let kept = keep_of c.self.inside.held.now c.args.point in
    let here = above_locks (flow_of facts.origins) kept c.args.way.now c.args.child c.locks.result.now c.in_ok-risen.risen c.in_ok-set.set c.in_ok-risen.ensures.exact.members c.in_ok-set.ensures.members x in
    subst (λ (t : PointTable). (has_id c.in_ok-set.set x ≡ true) ↔ (((y : ℕ) × (has_lock t.entries c.args.below y ≡ true) × RisesAs (flow_of t.facts.origins) c.args.way.now y x) ⊎ ((c.args.child ≡ false) × (has_id (keep_of t.held c.args.point) x ≡ true)))) c.self.view_is
    (locks_as (flow_of facts.origins) kept c.args.way.now c.args.child c.locks.result.now (has_lock c.self.inside.below.items.now c.args.below) c.locks.ensures.members x (has_id c.in_ok-set.set x ≡ true) here)

pub returns-clause-in_range : goal.returns-clause-in_range
returns-clause-in_range c =
    subst (λ (t : PointTable). IsSetBelow (length t.facts.labels.entries) c.in_ok-set.set) c.self.view_is
    (subst (λ n. IsSetBelow n c.in_ok-set.set) c.self.invariant.held_labels c.in_ok-set.ensures.in_range)
