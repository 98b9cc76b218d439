use Rattle.std.proofs.Common.{◌≡◌, ◌∙◌, Contains, sym, ap, subst}
use Rattle.std.specs.List.{list_any}
use Rattle.std.proofs.lemmas.Bool.{both_ways}
use Rattle.lk_conflict.specs.Kinds.{is_kind, kind_of}
use Rattle.lk_conflict.specs.Settings.{setting}
use Rattle.lk_rise.specs.declared.point_items.ItemAt.{ItemAt}
use Rattle.lk_conflict.proofs.BasisLemmas.{adds_as, adds_none}
use Rattle.lk_conflict.proofs.KindLemmas.{kind_there}
use Rattle.lk_conflict.proofs.grounds.Grounds.push_conflict.Goals as goal

pub returns-then-not-contains : goal.returns-then-not-contains
returns-then-not-contains c =
    let self = c.args.self.now in
    let keys = c.args.racing.now.keys in
    let program = self.items.now.facts.program in
    let found : c.contains.result ≡ list_any (is_kind (kind_of program c.args.item.now)) keys = c.contains.ensures ∙ ap (λ k. list_any (is_kind k) keys) c.kind.ensures in
    adds_none self.items.now.facts (setting self) _ _
    (λ f o i holds. both_ways c.contains.result c.if-not-contains.true (found ∙ (kind_there keys (kind_of program c.args.item.now)).1 (subst (λ j. Contains keys (kind_of program j)) holds.2 holds.3)))

pub returns : goal.returns
returns c =
    let self = c.args.self.now in
    let keys = c.args.racing.now.keys in
    let program = self.items.now.facts.program in
    let found : c.contains.result ≡ list_any (is_kind (kind_of program c.args.item.now)) keys = c.contains.ensures ∙ ap (λ k. list_any (is_kind k) keys) c.kind.ensures in
    let test : ItemAt → Type 0 = λ i. Contains keys (kind_of program i) in
    let here : test c.args.item.now = (kind_there keys (kind_of program c.args.item.now)).0 (sym found ∙ c.if-not-contains.false) in
    adds_as self.items.now.facts (setting self)
    (λ f o i. (f ≡ c.args.function) × (o ≡ c.args.location) × (i ≡ c.args.item.now)) (λ f o i. (f ≡ c.args.function) × (o ≡ c.args.location) × (i ≡ c.args.item.now) × test i)
    c.args.based.now.items c.push_basis.new.based.items c.in_ok-push_basis.ensures
    (λ f o i holds. (holds.0, holds.1, holds.2, subst test (sym holds.2) here))
    (λ f o i holds. (holds.0, holds.1, holds.2))
