use Rattle.std.proofs.Common.{◌≡◌, ◌∙◌, Some, ap, length, subst, sym, arith}
use Rattle.std.specs.Prelude.{slice_get}
use Rattle.std.proofs.lemmas.Option.{slice_get-get_or}
use Rattle.lk_types.specs.Table.{Table}
use Rattle.lk_flow.specs.Closing.{PartsBoth}
use Rattle.lk_flow.proofs.Counting.{upto_none, upto_more, upto_all}
use Rattle.lk_flow.proofs.FieldLists.{part_put, parts_below}
use Rattle.lk_flow.proofs.close.put_parts.Goals as goal

pub loop-part-init : goal.loop-part-init
loop-part-init c = λ u v ends. upto_none c.args.labels.now.names (PartsBoth c.args.points.now u v c.args.edge.now.mark) c.args.found.now

pub loop-part-preserved : goal.loop-part-preserved
loop-part-preserved c = λ u v ends.
    let program = c.args.points.now in
    let names = c.args.labels.now.names in
    let m = c.args.edge.now.mark in
    let i = c.loop-part.part-index in
    let parts = c.parts-part-items.ensures.value ∙ ap (λ (table : Table). table.parts) c.types.ensures in
    let item = c.part-item.result in
    let at = slice_get-get_or c.parts-part-items.result.now i item c.loop-part-test.true ∙ ap Some (sym c.part-item.is) in
    upto_more names (PartsBoth program u v m) i c.args.found.now c.loop-part.found c.put_inside.new.found (c.loop-part.invariant u v ends)
    (part_put program names u v m i item c.loop-part.found c.put_inside.new.found (subst (λ ts. slice_get ts i ≡ Some item) parts at) (c.in_ok-put_inside.ensures u v ends))

pub returns : goal.returns
returns c = λ u v ends.
    let program = c.args.points.now in
    let names = c.args.labels.now.names in
    let m = c.args.edge.now.mark in
    let parts = ap length (c.parts-part-items.ensures.value ∙ ap (λ (table : Table). table.parts) c.types.ensures) in
    upto_all names (PartsBoth program u v m) c.loop-part.part-index c.args.found.now c.loop-part.found
    (λ k x y n is. (let below = parts_below program names u v m k x y n is in omega (arith, below, parts, c.loop-part-test.false))) (c.loop-part.invariant u v ends)
