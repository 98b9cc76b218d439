use Rattle.std.proofs.Common.{◌++◌, ◌∷◌, [], get_or, take, sym, subst}
use Rattle.std.proofs.lemmas.List.{take_more}
use Rattle.std.proofs.lemmas.Option.{slice_get-get_or}
use Rattle.lk_join.specs.Labels.{IsLabelled}
use Rattle.lk_join.specs.Numbering.{AreLabelled}
use Rattle.lk_join.proofs.Zips.{zip_push}
use Rattle.lk_join.proofs.numbers.labelled_row.Goals as goal

pub loop-place-preserved : goal.loop-place-preserved
loop-place-preserved c =
    let structs = c.args.structs.now in
    let labels = c.args.labels.now in
    let places = c.args.places.now in
    let n = c.loop-place.place-index in
    let place = get_or places n 0 in
    subst (λ ps. AreLabelled structs labels ps c.push.new.self.items) (sym (take_more places n 0 c.loop-place-test.true))
    (subst (AreLabelled structs labels (take n places ++ place ∷ [])) (sym c.in_ok-push.ensures.items)
    (zip_push (IsLabelled structs labels) (take n places) c.loop-place.row.items place c.at-s.result c.loop-place.invariant
    (get_or labels place 0, slice_get-get_or labels place 0 (c.requires.places n 0 c.loop-place-test.true), c.at-s.ensures)))
