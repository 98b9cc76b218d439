use Rattle.std.proofs.Common.{◌≡◌, ◌↔◌, ◌∙◌, true, Contains, get_or, subst, sym, ap}
use Rattle.std.specs.List.{flat_map}
use Rattle.std.proofs.lemmas.List.{take_all}
use Rattle.std.proofs.lemmas.List.Elements.{Contains-get_or}
use Rattle.std.proofs.lemmas.Option.{slice_get_within}
use Rattle.lk_facts.specs.Facts.{basis_of}
use Rattle.lk_facts.specs.Verdicts.{IsRacing}
use Rattle.lk_facts.specs.declared.program.Program.{Program}
use Rattle.lk_rise.specs.Correlations.{has_of, locks_of}
use Rattle.lk_rise.specs.declared.correlations.Correlation.{Correlation}
use Rattle.lk_rise.proofs.EntryLemmas.{entry_at}
use Rattle.lk_sets.specs.Ids.{has_id, IsSetOf}
use Rattle.lk_conflict.specs.Listing.{access_at, accesses_in}
use Rattle.lk_conflict.proofs.EntryLemmas.{accesses_are}
use Rattle.lk_conflict.proofs.PlaceLemmas.{set_lists}
use Rattle.lk_conflict.proofs.places.Races.accesses.Goals as goal

pub push_item-requires : goal.push_item-requires
push_item-requires c =
    let self = c.args.self.now in
    let list = c.at-number-items.result.now in
    let k = get_or list c.loop-number.number-index 0 in
    let there = subst (λ xs. Contains xs k) c.at-number-items.ensures (Contains-get_or list c.loop-number.number-index 0 c.loop-number-test.true) in
    let at = entry_at (λ (item : Correlation). item.subject) self.items.now self.numbers.now c.requires.numbers c.args.location k there in
    slice_get_within self.items.now k at.0 at.1

pub returns : goal.returns
returns c =
    let self = c.args.self.now in
    let entries = self.items.now in
    let list = c.at-number-items.result.now in
    let set : IsSetOf (has_id c.loop-number.accesses.items) c.in_ok-set.set = subst (λ ids. IsSetOf (has_id ids) c.in_ok-set.set) c.deref.ensures.value c.in_ok-set.ensures in
    let all : c.loop-number.accesses.items ≡ accesses_in self.facts.now.program.main c.args.location entries self.numbers.now =
    c.loop-number.invariant ∙ ap (flat_map (access_at c.main-main.result entries)) (take_all c.loop-number.number-index list c.loop-number-test.false ∙ c.at-number-items.ensures)
    ∙ ap (λ f. accesses_in f c.args.location entries self.numbers.now) (c.main-main.ensures.value ∙ ap (λ (q : Program). q.main) c.points.ensures.value) in
    set_lists (IsRacing (basis_of self.facts.now) (has_of entries) (locks_of entries) c.args.location) c.loop-number.accesses.items c.in_ok-set.set
    (λ a. subst (λ xs. (has_id xs a ≡ true) ↔ IsRacing (basis_of self.facts.now) (has_of entries) (locks_of entries) c.args.location a) (sym all)
    (accesses_are self.facts.now.program.main c.args.location entries self.numbers.now c.requires.numbers a))
    set
