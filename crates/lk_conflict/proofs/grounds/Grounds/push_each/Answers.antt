use Rattle.lk_conflict.specs.Settings.{setting}
use Rattle.std.proofs.Common.{◌≡◌, ◌+◌, ℕ, take, Contains, ⊎_elim, inl, inr, sym, subst}
use Rattle.std.proofs.lemmas.List.{take_all}
use Rattle.lk_sets.specs.Rows.{has}
use Rattle.lk_conflict.specs.Kinds.{IsRacingKind, kind_of}
use Rattle.lk_rise.specs.declared.point_items.ItemAt.{ItemAt}
use Rattle.lk_conflict.proofs.BasisLemmas.{adds_as, adds_more, adds_none}
use Rattle.lk_rise.proofs.ListLemmas.{none_there, there_more}
use Rattle.lk_conflict.proofs.grounds.Grounds.push_each.Goals as goal

pub loop-item-init : goal.loop-item-init
loop-item-init c =
    let self = c.args.self.now in
    adds_none self.items.now.facts (setting self) _ _
    (λ f o i holds. none_there i holds.2)

pub loop-item-preserved : goal.loop-item-preserved
loop-item-preserved c =
    let self = c.args.self.now in
    let test : ItemAt → Type 0 = λ i. IsRacingKind self.items.now.facts.program (has self.after.now) c.args.items.now (kind_of self.items.now.facts.program i) in
    let k : ℕ = c.loop-item.item-index in
    let item : ItemAt = c.item-item.result in
    let added =
    adds_as self.items.now.facts (setting self)
    (λ f o i. (f ≡ c.args.function) × (o ≡ c.args.location) × (i ≡ item) × Contains c.in_ok-racing.racing.keys (kind_of self.items.now.facts.program i))
    (λ f o i. (f ≡ c.args.function) × (o ≡ c.args.location) × (i ≡ item) × test i)
    c.loop-item.based.items c.push_conflict.new.based.items c.in_ok-push_conflict.ensures
    (λ f o i holds. (holds.0, holds.1, holds.2, (c.in_ok-racing.ensures (kind_of self.items.now.facts.program i)).0 holds.3))
    (λ f o i holds. (holds.0, holds.1, holds.2, (c.in_ok-racing.ensures (kind_of self.items.now.facts.program i)).1 holds.3)) in
    adds_more self.items.now.facts (setting self)
    (λ f o i. (f ≡ c.args.function) × (o ≡ c.args.location) × Contains (take k c.args.items.now) i × test i)
    (λ f o i. (f ≡ c.args.function) × (o ≡ c.args.location) × (i ≡ item) × test i)
    (λ f o i. (f ≡ c.args.function) × (o ≡ c.args.location) × Contains (take (k + 1) c.args.items.now) i × test i)
    c.args.based.now.items c.loop-item.based.items c.push_conflict.new.based.items c.loop-item.invariant added
    (λ f o i holds. ⊎_elim (λ before. inl (holds.0, holds.1, before, holds.3)) (λ same. inr (holds.0, holds.1, same, holds.3)) ((there_more c.args.items.now k item i c.loop-item-test.true c.item-item.is).0 holds.2))
    (λ f o i holds. (holds.0, holds.1, (there_more c.args.items.now k item i c.loop-item-test.true c.item-item.is).1 (inl holds.2), holds.3))
    (λ f o i holds. (holds.0, holds.1, (there_more c.args.items.now k item i c.loop-item-test.true c.item-item.is).1 (inr holds.2), holds.3))

pub returns : goal.returns
returns c =
    let self = c.args.self.now in
    let test : ItemAt → Type 0 = λ i. IsRacingKind self.items.now.facts.program (has self.after.now) c.args.items.now (kind_of self.items.now.facts.program i) in
    let all = take_all c.loop-item.item-index c.args.items.now c.loop-item-test.false in
    adds_as self.items.now.facts (setting self)
    (λ f o i. (f ≡ c.args.function) × (o ≡ c.args.location) × Contains (take c.loop-item.item-index c.args.items.now) i × test i)
    (λ f o i. (f ≡ c.args.function) × (o ≡ c.args.location) × Contains c.args.items.now i × test i)
    c.args.based.now.items c.loop-item.based.items c.loop-item.invariant
    (λ f o i holds. (holds.0, holds.1, subst (λ xs. Contains xs i) all holds.2, holds.3))
    (λ f o i holds. (holds.0, holds.1, subst (λ xs. Contains xs i) (sym all) holds.2, holds.3))
