use Rattle.std.proofs.Common.{◌≡◌, ◌∙◌, ◌<◌, All, ap, length, sym, subst}
use Rattle.lk_join.specs.Numbering.{IsNumbered}
use Rattle.lk_join.specs.Places.{AreAllPutAt}
use Rattle.lk_join.proofs.Numbering.{all_in_program, labels_in, places_in, are_numbers}
use Rattle.lk_join.proofs.numbers.number_structs.Goals as goal

pub labels-requires : goal.labels-requires
labels-requires c =
    let structs = c.put_rows.new.set in
    let places = c.in_ok-places.places.items in
    let put = subst (λ old. AreAllPutAt old structs c.args.becomes.now places) c.new-structs.ensures c.in_ok-places.ensures in
    record { sources = c.requires.sources; resolved = c.requires.resolved; known = all_in_program c.args.units.now c.args.becomes.now c.requires.resolved structs places put }

pub numbers_of-requires : goal.numbers_of-requires
numbers_of-requires c =
    let structs = c.put_rows.new.set in
    let places = c.in_ok-places.places.items in
    let put = subst (λ old. AreAllPutAt old structs c.args.becomes.now places) c.new-structs.ensures c.in_ok-places.ensures in
    let labels = c.in_ok-labels.labels.items in
    let given = c.as_slice.result.now in
    let size : length given ≡ length structs = ap length c.as_slice.ensures.value ∙ c.in_ok-labels.ensures.size in
    record {
      labels = subst (All (λ label. label < length structs)) (sym c.as_slice.ensures.value) (labels_in c.args.units.now c.args.becomes.now c.requires.resolved structs places put labels c.in_ok-labels.ensures);
      places = subst (All (λ row. All (λ place. place < length given) row)) (sym c.as_slice-2.ensures.value) (places_in c.args.units.now c.args.becomes.now c.requires.resolved structs places put (length given) size);
    }

pub returns : goal.returns
returns c =
    let structs = c.put_rows.new.set in
    let places = c.in_ok-places.places.items in
    let put = subst (λ old. AreAllPutAt old structs c.args.becomes.now places) c.new-structs.ensures c.in_ok-places.ensures in
    let labels = c.in_ok-labels.labels.items in
    let rows = c.in_ok-numbers.numbers.rows in
    let count = c.in_ok-numbers.numbers.count in
    let numbered = subst (λ ls. IsNumbered structs ls places rows count) c.as_slice.ensures.value (subst (λ ps. IsNumbered structs c.as_slice.result.now ps rows count) c.as_slice-2.ensures.value c.in_ok-numbers.ensures) in
    are_numbers c.args.units.now c.args.becomes.now c.requires.resolved structs places put labels c.in_ok-labels.ensures rows count numbered
