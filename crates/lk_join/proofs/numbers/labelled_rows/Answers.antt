use Rattle.std.proofs.Common.{◌<◌, ◌++◌, ◌∷◌, [], All, length, take, sym, subst}
use Rattle.std.proofs.lemmas.List.{take_more}
use Rattle.lk_types.proofs.KeptLemmas.{read_got}
use Rattle.lk_types.proofs.SizeLemmas.{all_read}
use Rattle.lk_join.specs.Numbering.{AreAllLabelled, AreLabelled}
use Rattle.lk_join.proofs.Zips.{zip_push}
use Rattle.lk_join.proofs.numbers.labelled_rows.Goals as goal

pub loop-row-preserved : goal.loop-row-preserved
loop-row-preserved c =
    let structs = c.args.structs.now in
    let labels = c.args.labels.now in
    let places = c.args.places.now in
    let n = c.loop-row.row-index in
    let row = c.row-item.result in
    let here = subst (λ r. AreLabelled structs labels r c.in_ok-row.row) c.list.ensures c.in_ok-row.ensures in
    subst (λ ps. AreAllLabelled structs labels ps c.push.new.self.items) (sym (take_more places n row c.loop-row-test.true))
    (subst (λ r. AreAllLabelled structs labels (take n places ++ r ∷ []) c.push.new.self.items) c.row-item.is
    (subst (AreAllLabelled structs labels (take n places ++ row ∷ [])) (sym c.in_ok-push.ensures.items)
    (zip_push (AreLabelled structs labels) (take n places) c.loop-row.rows.items row c.in_ok-row.row c.loop-row.invariant here)))

pub labelled_row-requires-clause-places : goal.labelled_row-requires-clause-places
labelled_row-requires-clause-places c =
    let labels = c.args.labels.now in
    let places = c.args.places.now in
    let n = c.loop-row.row-index in
    let row = c.row-item.result in
    subst (All (λ place. place < length labels)) (sym c.list.ensures)
    (all_read (λ row. All (λ place. place < length labels) row) places n row c.requires.places (read_got places n row c.loop-row-test.true c.row-item.is))
