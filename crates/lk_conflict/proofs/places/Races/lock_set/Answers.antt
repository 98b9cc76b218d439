use Rattle.lk_facts.specs.declared.program.Program.{Program}
use Rattle.lk_facts.specs.Facts.{basis_of}
use Rattle.std.proofs.Common.{◌≡◌, false, true, Some, length, sym, ap, ◌∙◌}
use Rattle.std.specs.Option.{option_copied}
use Rattle.lk_rise.specs.Conflicts.{every_place}
use Rattle.lk_rise.specs.Correlations.{item_of, set_of}
use Rattle.lk_conflict.proofs.EntryLemmas.{set_below}
use Rattle.lk_conflict.proofs.PlaceLemmas.{both_held}
use Rattle.lk_conflict.proofs.places.Races.lock_set.Goals as goal

pub places-requires : goal.places-requires
places-requires c =
    let self = c.args.self.now in
    let at : Some c.in-Some-Some.own.now ≡ set_of self.items.now (item_of c.main.result false c.args.location c.args.access) = sym (ap option_copied c.in-Some-Some.is-0) ∙ c.find-own.ensures in
    set_below (length self.facts.now.labels.entries) self.items.now (item_of c.main.result false c.args.location c.args.access) c.in-Some-Some.own.now self.in_range at

pub places-requires-in-Some-Some : goal.places-requires-in-Some-Some
places-requires-in-Some-Some c =
    let self = c.args.self.now in
    let at : Some c.in-Some-Some.child.now ≡ set_of self.items.now (item_of c.main.result true c.args.location c.args.access) = sym (ap option_copied c.in-Some-Some.is-1) ∙ c.find-child.ensures in
    set_below (length self.facts.now.labels.entries) self.items.now (item_of c.main.result true c.args.location c.args.access) c.in-Some-Some.child.now self.in_range at

pub places-requires-in-Some-None : goal.places-requires-in-Some-None
places-requires-in-Some-None c =
    let self = c.args.self.now in
    let at : Some c.in-Some-None.own.now ≡ set_of self.items.now (item_of c.main.result false c.args.location c.args.access) = sym (ap option_copied c.in-Some-None.is-0) ∙ c.find-own.ensures in
    set_below (length self.facts.now.labels.entries) self.items.now (item_of c.main.result false c.args.location c.args.access) c.in-Some-None.own.now self.in_range at

pub places-requires-in-None-Some : goal.places-requires-in-None-Some
places-requires-in-None-Some c =
    let self = c.args.self.now in
    let at : Some c.in-None-Some.child.now ≡ set_of self.items.now (item_of c.main.result true c.args.location c.args.access) = sym (ap option_copied c.in-None-Some.is-1) ∙ c.find-child.ensures in
    set_below (length self.facts.now.labels.entries) self.items.now (item_of c.main.result true c.args.location c.args.access) c.in-None-Some.child.now self.in_range at

pub returns-in_ok-both-in-Some-Some : goal.returns-in_ok-both-in-Some-Some
returns-in_ok-both-in-Some-Some c =
    let self = c.args.self.now in
    let own : Some c.in-Some-Some.own.now ≡ set_of self.items.now (item_of self.facts.now.program.main false c.args.location c.args.access) =
    sym (ap option_copied c.in-Some-Some.is-0) ∙ c.find-own.ensures ∙ ap (λ f. set_of self.items.now (item_of f false c.args.location c.args.access)) (c.main.ensures.value ∙ ap (λ (q : Program). q.main) c.points.ensures.value) in
    let child : Some c.in-Some-Some.child.now ≡ set_of self.items.now (item_of self.facts.now.program.main true c.args.location c.args.access) =
    sym (ap option_copied c.in-Some-Some.is-1) ∙ c.find-child.ensures ∙ ap (λ f. set_of self.items.now (item_of f true c.args.location c.args.access)) (c.main.ensures.value ∙ ap (λ (q : Program). q.main) c.points.ensures.value) in
    both_held (basis_of self.facts.now) every_place self.items.now c.args.location c.args.access c.in-Some-Some.own.now c.in-Some-Some.child.now
    c.in_ok-places-in-Some-Some.places c.in_ok-others-in-Some-Some.others c.in_ok-both-in-Some-Some.both own child c.in_ok-places-in-Some-Some.ensures c.in_ok-others-in-Some-Some.ensures c.in_ok-both-in-Some-Some.ensures
