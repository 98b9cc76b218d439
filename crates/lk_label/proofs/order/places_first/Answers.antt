use Rattle.std.proofs.Common.{◌≡◌, ◌≤◌, ◌++◌, ◌∷◌, [], ◌∙◌, ap, sym, subst, take, length}
use Rattle.std.specs.Prelude.{slice_index_or, ◌<◌}
use Rattle.std.proofs.lemmas.List.{take_all, take_more}
use Rattle.lk_label.specs.Gathering.{AreOrderedTo}
use Rattle.lk_label.proofs.NameLists.{order_start, order_more, order_all}
use Rattle.lk_label.proofs.order.places_first.Goals as goal

pub loop-name-init : goal.loop-name-init
loop-name-init c = order_start c.args.points.now c.args.names.now c.in_ok-ordered.ordered c.in_ok-ordered.ensures

pub loop-name-preserved : goal.loop-name-preserved
loop-name-preserved c =
    let names = c.args.names.now in
    let i = c.loop-name.name-index in
    let x = c.name-item.result in
    let is : x ≡ slice_index_or names i x = subst (λ xs. x ≡ slice_index_or xs i x) c.list-name-items.ensures.value c.name-item.is in
    let within : i < length names = subst (λ xs. i < length xs) c.list-name-items.ensures.value c.loop-name-test.true in
    subst (λ xs. AreOrderedTo c.args.points.now names xs c.put.new.self) (sym (take_more names i x within ∙ ap (λ y. take i names ++ y ∷ []) (sym is)))
    (order_more c.args.points.now names c.loop-name.ordered c.put.new.self i x c.requires.ordered within is c.in_ok-put.ensures c.loop-name.invariant)

pub returns : goal.returns
returns c =
    let names = c.args.names.now in
    let i = c.loop-name.name-index in
    let all = take_all i names (subst (λ xs. length xs ≤ i) c.list-name-items.ensures.value c.loop-name-test.false) in
    order_all c.args.points.now names c.loop-name.ordered c.requires c.are_different.ensures (subst (λ xs. AreOrderedTo c.args.points.now names xs c.loop-name.ordered) all c.loop-name.invariant)
