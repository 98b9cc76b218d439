use Rattle.std.proofs.Common.{◌∙◌, ◌++◌, ◌+◌, ◌∷◌, [], drop, ap}
use Rattle.lk_base.specs.declared.cell.CellStep.TheVariants.{Index}
use Rattle.lk_elab_init.specs.Cells.{cells_of_text}
use Rattle.lk_elab_init.proofs.Putting.{put_one_more, text_left}
use Rattle.lk_elab_init.proofs.named_cells.put_bytes.Goals as goal

pub loop-place-preserved : goal.loop-place-preserved
loop-place-preserved c =
    let bytes = c.args.bytes.now in
    let path = c.args.path.now in
    let k = c.loop-place.place in
    let old = c.loop-place.out.items in
    put_one_more old c.push.new.self.items (c.args.out.now.items ++ cells_of_text path 0 bytes) ((path ++ Index k ∷ []) ∷ []) (cells_of_text path (k + 1) (drop (k + 1) bytes))
    (cells_of_text path k (drop k bytes)) (c.in_ok-push.ensures.items ∙ ap (λ cell. old ++ cell ∷ []) c.in_ok-cell.ensures) (text_left path bytes k c.loop-place-test.true) c.loop-place.invariant
