use Rattle.std.proofs.Common.{◌≡◌, ◌<◌, ◌≤◌, ◌++◌, ◌∷◌, [], ◌∙◌, ap, sym, subst, take, length, get_or}
use Rattle.std.proofs.lemmas.List.{take_all, take_more}
use Rattle.lk_types.specs.Nodes.{IsNode}
use Rattle.lk_label.specs.Naming.{ArePlaces}
use Rattle.lk_label.proofs.NodeLists.{places_none, places_more}
use Rattle.lk_label.proofs.named.places.Goals as goal

pub put_places-requires : goal.put_places-requires
put_places-requires c =
    let i = c.loop-node.node-index in
    let n = c.node-item.result in
    let is : n ≡ get_or c.args.walk.now i n = subst (λ xs. n ≡ get_or xs i n) c.list-node-items.ensures.value c.node-item.is in
    let within : i < length c.args.walk.now = subst (λ xs. i < length xs) c.list-node-items.ensures.value c.loop-node-test.true in
    subst (IsNode c.args.types.now) (sym is) (c.requires.walk.nodes i n within)

pub loop-node-init : goal.loop-node-init
loop-node-init c = places_none c.args.types.now c.args.t c.args.whole c.in_ok-places.places c.in_ok-places.ensures

pub loop-node-preserved : goal.loop-node-preserved
loop-node-preserved c =
    let nodes = c.args.walk.now in
    let i = c.loop-node.node-index in
    let n = c.node-item.result in
    let is : n ≡ get_or nodes i n = subst (λ xs. n ≡ get_or xs i n) c.list-node-items.ensures.value c.node-item.is in
    let within : i < length nodes = subst (λ xs. i < length xs) c.list-node-items.ensures.value c.loop-node-test.true in
    subst (λ xs. ArePlaces c.args.types.now c.args.t c.args.whole xs c.put_places.new.places) (sym (take_more nodes i n within ∙ ap (λ x. take i nodes ++ x ∷ []) (sym is)))
    (places_more c.args.types.now c.args.t c.args.whole (take i nodes) c.loop-node.places c.put_places.new.places n c.loop-node.invariant c.in_ok-put_places.ensures)

pub returns : goal.returns
returns c =
    let nodes = c.args.walk.now in
    let i = c.loop-node.node-index in
    let all = take_all i nodes (subst (λ xs. length xs ≤ i) c.list-node-items.ensures.value c.loop-node-test.false) in
    subst (λ xs. ArePlaces c.args.types.now c.args.t c.args.whole xs c.loop-node.places) all c.loop-node.invariant
