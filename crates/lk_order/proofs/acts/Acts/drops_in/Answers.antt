use Rattle.std.proofs.Common.{◌≡◌, ◌<◌, ◌∙◌, All, true, length, get_or, sym, subst}
use Rattle.std.proofs.lemmas.Bool.{false≢true}
use Rattle.std.proofs.lemmas.List.{take_all}
use Rattle.lk_links.proofs.SetLemmas.{has_id-at}
use Rattle.lk_order.specs.Acquiring.{IsSameOver}
use Rattle.lk_order.specs.Acts.{basis_in, linear_in}
use Rattle.lk_order.proofs.LosingLemmas.{dropped_within, ids_more, none_drops, some_drops}
use Rattle.lk_sets.specs.Ids.{has_id}
use Rattle.lk_order.proofs.acts.Acts.drops_in.Goals as goal

pub loop-y-init : goal.loop-y-init
loop-y-init c = λ y there. absurd (false≢true there)

pub is_same_over-requires-clause-y : goal.is_same_over-requires-clause-y
is_same_over-requires-clause-y c =
    let basis = basis_in c.args.self.now in
    subst (All (λ y. y < length basis.labels.entries)) (sym (c.ids-y-items.ensures.list ∙ c.at.ensures)) (dropped_within basis c.args.dropped.now c.exit-exit.result c.requires.dropped) c.loop-y.y-index 0 c.loop-y-test.true

pub loop-y-preserved : goal.loop-y-preserved
loop-y-preserved c =
    let self = c.args.self.now in
    ids_more (λ y. IsSameOver (basis_in self) (linear_in self) c.args.link.now.above c.args.link.now.way c.args.x y → ⊥) c.ids-y-items.result.now c.loop-y.y-index 0 c.loop-y-test.true c.loop-y.invariant
    (λ is. false≢true (sym c.if-branch.false ∙ c.in_ok-is_same_over.ensures.1 is))

pub returns-then-branch : goal.returns-then-branch
returns-then-branch c =
    let self = c.args.self.now in
    let y = get_or c.ids-y-items.result.now c.loop-y.y-index 0 in
    some_drops (basis_in self) (linear_in self) c.args.link.now.above c.args.link.now.below c.exit-exit.result c.args.x y c.args.link.now.way c.args.dropped.now c.requires.dropped c.exit-exit.ensures.value
    (subst (λ ids. has_id ids y ≡ true) (c.ids-y-items.ensures.list ∙ c.at.ensures) (has_id-at c.ids-y-items.result.now c.loop-y.y-index 0 c.loop-y-test.true))
    (c.in_ok-is_same_over.ensures.0 c.if-branch.true)

pub returns : goal.returns
returns c =
    let self = c.args.self.now in
    none_drops (basis_in self) (linear_in self) c.args.link.now.above c.args.link.now.below c.exit-exit.result c.args.x c.args.link.now.way c.args.dropped.now c.requires.dropped c.exit-exit.ensures.value
    (λ y there is. c.loop-y.invariant y (subst (λ ids. has_id ids y ≡ true) (sym (take_all c.loop-y.y-index c.ids-y-items.result.now c.loop-y-test.false ∙ c.ids-y-items.ensures.list ∙ c.at.ensures)) there) is)
