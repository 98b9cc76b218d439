use Rattle.std.proofs.Common.{◌≡◌, ◌<◌, ◌≤◌, ◌++◌, ◌∷◌, [], ◌∙◌, ap, sym, subst, take, length}
use Rattle.std.specs.Prelude.{slice_index_or}
use Rattle.std.proofs.lemmas.List.{take_all, take_more}
use Rattle.lk_label.specs.Listing.{AreEntriesOf}
use Rattle.lk_label.proofs.EntryLists.{entries_none, entries_more}
use Rattle.lk_label.proofs.entries.entries.Goals as goal

pub loop-name-init : goal.loop-name-init
loop-name-init c = subst (AreEntriesOf c.args.points.now []) (sym c.new-entries.ensures.items) (entries_none c.args.points.now)

pub entry_of-requires-clause-label : goal.entry_of-requires-clause-label
entry_of-requires-clause-label c =
    let names = c.args.names.now in
    let i = c.loop-name.name-index in
    let x = c.name-item.result in
    let is : x ≡ slice_index_or names i x = subst (λ xs. x ≡ slice_index_or xs i x) c.list-name-items.ensures.value c.name-item.is in
    let within : i < length names = subst (λ xs. i < length xs) c.list-name-items.ensures.value c.loop-name-test.true in
    (c.requires.names.each x).0 (i, within, sym is)

pub loop-name-preserved : goal.loop-name-preserved
loop-name-preserved c =
    let names = c.args.names.now in
    let i = c.loop-name.name-index in
    let x = c.name-item.result in
    let is : x ≡ slice_index_or names i x = subst (λ xs. x ≡ slice_index_or xs i x) c.list-name-items.ensures.value c.name-item.is in
    let within : i < length names = subst (λ xs. i < length xs) c.list-name-items.ensures.value c.loop-name-test.true in
    subst (λ xs. AreEntriesOf c.args.points.now xs c.push.new.self.items) (sym (take_more names i x within ∙ ap (λ y. take i names ++ y ∷ []) (sym is)))
    (subst (AreEntriesOf c.args.points.now (take i names ++ x ∷ [])) (sym c.in_ok-push.ensures.items) (entries_more c.args.points.now (take i names) c.loop-name.entries.items x c.entry_of.result c.loop-name.invariant c.entry_of.ensures))

pub returns : goal.returns
returns c =
    let names = c.args.names.now in
    let i = c.loop-name.name-index in
    let all = take_all i names (subst (λ xs. length xs ≤ i) c.list-name-items.ensures.value c.loop-name-test.false) in
    subst (λ xs. AreEntriesOf c.args.points.now xs c.loop-name.entries.items) all c.loop-name.invariant
