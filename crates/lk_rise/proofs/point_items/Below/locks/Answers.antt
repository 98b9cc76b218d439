use Rattle.std.proofs.Common.{◌≡◌, ◌∙◌, Some, sym, ap}
use Rattle.std.specs.Option.{option_copied}
use Rattle.std.proofs.lemmas.List.Elements.{All-contains}
use Rattle.lk_rise.specs.Correlations.{set_of, IsEntryInRange}
use Rattle.lk_rise.proofs.EntryLemmas.{found_there}
use Rattle.lk_rise.proofs.point_items.Below.locks.Goals as goal

pub returns-in-Some-clause-in_range : goal.returns-in-Some-clause-in_range
returns-in-Some-clause-in_range c =
    let self = c.args.self.now in
    let at : Some c.in-Some.locks.now ≡ set_of self.items.now c.args.item = sym (ap option_copied c.in-Some.is) ∙ c.find.ensures in
    let there = found_there self.items.now c.args.item c.in-Some.locks.now at in
    let known = All-contains (IsEntryInRange self.facts.now _) self.items.now (c.args.item, c.in-Some.locks.now) c.requires.in_range there in
    known.locks.below
