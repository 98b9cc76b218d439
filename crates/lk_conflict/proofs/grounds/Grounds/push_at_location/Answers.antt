use Rattle.lk_conflict.specs.Settings.{setting}
use Rattle.lk_facts.specs.Facts.{basis_of}
use Rattle.std.proofs.Common.{◌≡◌, ◌∙◌, ℕ, Contains, List, sym, subst, All}
use Rattle.std.proofs.lemmas.List.Elements.{All-contains_itself, All-filter, All-weaker}
use Rattle.lk_rise.specs.Correlations.{has_of}
use Rattle.lk_sets.specs.Rows.{has}
use Rattle.lk_conflict.specs.Bases.{IsInConflict}
use Rattle.lk_rise.specs.PointItems.{IsItemInRange, IsItemOf}
use Rattle.lk_conflict.specs.Kinds.{IsRacingKind, kind_of}
use Rattle.lk_rise.specs.declared.point_items.ItemAt.{ItemAt}
use Rattle.lk_conflict.proofs.BasisLemmas.{adds_as, in_conflict, may_be}
use Rattle.lk_conflict.proofs.grounds.Grounds.push_at_location.Goals as goal

pub push_each-requires-clause-in_range : goal.push_each-requires-clause-in_range
push_each-requires-clause-in_range c =
    let self = c.args.self.now in
    subst (All (IsItemInRange self.items.now.facts)) (sym (c.deref.ensures.value ∙ c.in_ok-here.ensures))
    (All-filter (λ (i : ItemAt). has self.items.now.facts.origins.all i.subject c.args.location) (IsItemInRange self.items.now.facts) c.args.items.now c.requires.in_range)

pub push_each-requires-clause-items : goal.push_each-requires-clause-items
push_each-requires-clause-items c =
    let self = c.args.self.now in
    let is = c.deref.ensures.value ∙ c.in_ok-here.ensures in
    All-weaker (Contains c.deref.result.now) (IsItemOf (basis_of self.items.now.facts) (has_of self.items.now.entries) c.args.function)
    (λ i there. ((may_be self.items.now.facts (setting self) c.args.function c.args.location c.args.items.now c.deref.result.now c.requires.location c.requires.items is i).0 there).item)
    c.deref.result.now (All-contains_itself c.deref.result.now)

pub returns : goal.returns
returns c =
    let self = c.args.self.now in
    let here : List ItemAt = c.deref.result.now in
    let is = c.deref.ensures.value ∙ c.in_ok-here.ensures in
    let known = in_conflict self.items.now.facts (setting self) c.args.function c.args.location c.args.items.now here c.requires.location c.requires.items is in
    let Conflict : ℕ → ℕ → ItemAt → Type 0 = IsInConflict self.items.now.facts (setting self) in
    adds_as self.items.now.facts (setting self)
    (λ f o i. (f ≡ c.args.function) × (o ≡ c.args.location) × Contains here i × IsRacingKind self.items.now.facts.program (has self.after.now) here (kind_of self.items.now.facts.program i))
    (λ f o i. (f ≡ c.args.function) × (o ≡ c.args.location) × Conflict f o i)
    c.args.based.now.items c.push_each.new.based.items c.in_ok-push_each.ensures
    (λ f o i holds. (holds.0, holds.1, subst (λ g. Conflict g o i) (sym holds.0) (subst (λ q. Conflict c.args.function q i) (sym holds.1) ((known i).0 (holds.2, holds.3)))))
    (λ f o i holds. let both = (known i).1 (subst (λ q. Conflict c.args.function q i) holds.1 (subst (λ g. Conflict g o i) holds.0 holds.2)) in (holds.0, holds.1, both.0, both.1))
