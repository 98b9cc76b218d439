use Rattle.lk_conflict.specs.Settings.{setting}
use Rattle.std.proofs.Common.{◌≡◌, ◌<◌, ◌+◌, ◌∙◌, ℕ, arith, inl, inr, ap}
use Rattle.std.proofs.lemmas.Bool.{cases_eq}
use Rattle.lk_facts.specs.Facts.{FactTable}
use Rattle.lk_facts.specs.declared.program.Program.{Program}
use Rattle.lk_conflict.specs.Bases.{IsInConflict}
use Rattle.lk_rise.specs.declared.point_items.ItemAt.{ItemAt}
use Rattle.lk_conflict.proofs.BasisLemmas.{adds_as, adds_more}
use Rattle.lk_conflict.proofs.grounds.Grounds.push_at_locations.Goals as goal

pub loop-location-preserved : goal.loop-location-preserved
loop-location-preserved c =
    let self = c.args.self.now in
    let Conflict : ℕ → ℕ → ItemAt → Type 0 = IsInConflict self.items.now.facts (setting self) in
    let n : ℕ = c.loop-location.location in
    adds_more self.items.now.facts (setting self)
    (λ f o i. (f ≡ c.args.function) × (o < n) × Conflict f o i) (λ f o i. (f ≡ c.args.function) × (o ≡ n) × Conflict f o i) (λ f o i. (f ≡ c.args.function) × (o < n + 1) × Conflict f o i)
    c.args.based.now.items c.loop-location.based.items c.push_at_location.new.based.items c.loop-location.invariant c.in_ok-push_at_location.ensures
    (λ f o i holds.
    elim (cases_eq o n) [
      | inl same ↦ inr (holds.0, same, holds.2)
      | inr other ↦ inl (holds.0, omega (arith, holds.1, other), holds.2)
    ])
    (λ f o i holds. (holds.0, omega (arith, holds.1), holds.2))
    (λ f o i holds. (holds.0, omega (arith, holds.1), holds.2))

pub returns : goal.returns
returns c =
    let self = c.args.self.now in
    let Conflict : ℕ → ℕ → ItemAt → Type 0 = IsInConflict self.items.now.facts (setting self) in
    let n : ℕ = c.loop-location.location in
    let count : c.locations-locations.result ≡ self.items.now.facts.program.locations = c.locations-locations.ensures.value ∙ ap (λ (q : Program). q.locations) (c.points.ensures.value ∙ ap (λ (t : FactTable). t.program) c.facts.ensures) in
    adds_as self.items.now.facts (setting self)
    (λ f o i. (f ≡ c.args.function) × (o < n) × Conflict f o i) (λ f o i. (f ≡ c.args.function) × Conflict f o i)
    c.args.based.now.items c.loop-location.based.items c.loop-location.invariant
    (λ f o i holds. (holds.0, holds.2))
    (λ f o i holds. (holds.0, omega (arith, holds.1.location, count, c.loop-location-test.false), holds.1))
