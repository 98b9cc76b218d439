use Rattle.std.proofs.Common.{◌≡◌, ◌<◌, ◌++◌, ◌∷◌, [], map, take, length, get_or, sym, subst}
use Rattle.lk_types.specs.Nodes.{node_of}
use Rattle.lk_types.specs.Table.{fields_of, type_at}
use Rattle.lk_types.specs.declared.node.Sel.TheVariants.{Target, Part}
use Rattle.lk_label.specs.Parts.{HasParts}
use Rattle.lk_label.proofs.PartLists.{sels_to, sels_more, parts_more, no_parts}
use Rattle.lk_label.proofs.parts.parts_in_order.Goals as goal

pub loop-number-init : goal.loop-number-init
loop-number-init c =
    let none = subst (HasParts c.args.types.now c.args.node.now []) (sym c.new-parts.ensures.items) (no_parts c.args.types.now c.args.node.now) in
    c.in_ok-push_part-2.ensures (Target ∷ []) (c.in_ok-push_part.ensures [] none)

pub loop-number-preserved : goal.loop-number-preserved
loop-number-preserved c =
    subst (λ sels. HasParts c.args.types.now c.args.node.now sels c.push_part-in-loop-number.new.parts.items) (sels_more c.loop-number.number) (c.in_ok-push_part-3.ensures (sels_to c.loop-number.number) c.loop-number.invariant)

pub loop-part-preserved : goal.loop-part-preserved
loop-part-preserved c =
    let types = c.args.types.now in
    let node = c.args.node.now in
    let i = c.loop-part.part-index in
    let p = c.part-item.result in
    let n = length (fields_of types (type_at types (node_of types node).type)) in
    let is : p ≡ get_or types.parts i p = subst (λ xs. p ≡ get_or xs i p) c.parts-part-items.ensures.value c.part-item.is in
    let within : i < length types.parts = subst (λ xs. i < length xs) c.parts-part-items.ensures.value c.loop-part-test.true in
    subst (λ sels. HasParts types node sels c.push_part-in-loop-part.new.parts.items) (parts_more n types.parts i p within is) (c.in_ok-push_part-4.ensures (sels_to n ++ map Part (take i types.parts)) c.loop-part.invariant)
