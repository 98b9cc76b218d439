use Rattle.std.proofs.Common.{◌↔◌, Contains, All, sym, subst}
use Rattle.lk_facts.specs.Facts.{basis_of}
use Rattle.lk_rise.specs.Correlations.{has_of}
use Rattle.lk_rise.specs.PointItems.{IsItemInRange, IsItemOf}
use Rattle.lk_conflict.specs.Bases.{IsInConflict}
use Rattle.lk_conflict.specs.Settings.{setting}
use Rattle.lk_conflict.proofs.BasisLemmas.{adds_none, none_meet}
use Rattle.lk_conflict.proofs.grounds.Grounds.push_conflicts.Goals as goal

pub returns-then-not-may_start : goal.returns-then-not-may_start
returns-then-not-may_start c =
    let self = c.args.self.now in
    let facts = self.items.now.facts in
    adds_none facts (setting self) _ _
    (λ f o i holds. none_meet facts (setting self) c.args.function o i (c.may_start.ensures c.if-not-may_start.true) (subst (λ g. IsInConflict facts (setting self) g o i) holds.0 holds.1))

pub push_at_locations-requires-clause-in_range : goal.push_at_locations-requires-clause-in_range
push_at_locations-requires-clause-in_range c = subst (All (IsItemInRange c.args.self.now.items.now.facts)) (sym c.deref.ensures.value) c.in_ok-items.ensures.in_range

pub push_at_locations-requires-clause-items : goal.push_at_locations-requires-clause-items
push_at_locations-requires-clause-items c = λ i.
    let self = c.args.self.now in
    subst (λ xs. Contains xs i ↔ IsItemOf (basis_of self.items.now.facts) (has_of self.items.now.entries) c.args.function i) (sym c.deref.ensures.value) (c.in_ok-items.ensures.members i)
