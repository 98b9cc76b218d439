use Rattle.std.proofs.Common.{◌≡◌, ◌<◌, ◌∙◌, ℕ, false, Some, Contains, get_or, ap, arith, below_more, subst, sym}
use Rattle.std.specs.Option.{unwrap_or}
use Rattle.std.proofs.lemmas.List.{get_or_default}
use Rattle.std.proofs.lemmas.List.Elements.{Contains-get_or}
use Rattle.lk_rise.specs.Tables.{item_at}
use Rattle.lk_rise.specs.declared.correlations.Correlation.{Correlation}
use Rattle.lk_rise.proofs.EntryLemmas.{no_child_among}
use Rattle.lk_rise.proofs.PointLemmas.{number_within}
use Rattle.lk_rise.proofs.point_items.Below.has_child.Goals as goal

pub item-requires : goal.item-requires
item-requires c =
    let self = c.args.self.now in
    let list = c.at-number-items.result.now in
    let k = get_or list c.loop-number.number-index 0 in
    number_within self.items.now self.numbers c.args.function k c.requires.below.groups
    (subst (λ xs. Contains xs k) c.at-number-items.ensures (Contains-get_or list c.loop-number.number-index 0 c.loop-number-test.true))

pub loop-number-preserved : goal.loop-number-preserved
loop-number-preserved c =
    let self = c.args.self.now in
    let list = c.at-number-items.result.now in
    below_more (λ j. (item : Correlation) → item_at self.items.now (get_or list j 0) ≡ Some item → item.child ≡ false) c.loop-number.number-index
    c.loop-number.invariant
    (λ item at.
    let one : c.item.result ≡ item = ap (λ o. unwrap_or o item) (sym c.item.ensures ∙ at) in
    ap (λ (i : Correlation). i.child) (sym one) ∙ c.if-item.false)

pub returns : goal.returns
returns c = λ _.
    let self = c.args.self.now in
    let list = c.at-number-items.result.now in
    no_child_among self.items.now self.numbers c.args.function c.requires.below.groups
    (λ k there item at.
    let place = subst (λ xs. Contains xs k) (sym c.at-number-items.ensures) there in
    c.loop-number.invariant place.0 (omega (arith, place.1, c.loop-number-test.false)) item (ap (λ n. item_at self.items.now n) (get_or_default list place.0 0 k place.1 ∙ place.2) ∙ at))
