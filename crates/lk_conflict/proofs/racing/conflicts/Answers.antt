use Rattle.std.proofs.Common.{ℕ, List, [], Contains, All, sym, subst, ⊎_elim}
use Rattle.std.proofs.lemmas.List.Elements.{All-contains_itself, All-weaker}
use Rattle.lk_facts.specs.Racing.{Setting}
use Rattle.lk_facts.specs.Facts.{basis_of}
use Rattle.lk_facts.specs.Racing.{AreRaces}
use Rattle.lk_rise.specs.Conflicts.{AreRacingLists, ConflictTable}
use Rattle.lk_rise.specs.Correlations.{IsEntryInRange, has_of, locks_of}
use Rattle.lk_rise.specs.PointItems.{PointTable}
use Rattle.lk_rise.specs.declared.correlations.Correlation.{Correlation}
use Rattle.lk_rise.proofs.ListLemmas.{none_there}
use Rattle.lk_conflict.specs.Bases.{Adds, IsInConflict}
use Rattle.lk_conflict.specs.Facts.{setting_of}
use Rattle.lk_conflict.proofs.RaceLemmas.{races_are}
use Rattle.lk_conflict.proofs.racing.conflicts.Goals as goal

pub rise-requires-clause-based : goal.rise-requires-clause-based
rise-requires-clause-based c =
    let facts = c.args.facts.now in
    let adds : Adds facts (setting_of c.args.after.now c.args.items.now.entries c.args.held.now) (IsInConflict facts (setting_of c.args.after.now c.args.items.now.entries c.args.held.now)) [] c.in_ok-based.based.items =
    subst (λ (t : PointTable). Adds t.facts (setting_of c.args.after.now t.entries t.held) (IsInConflict t.facts (setting_of c.args.after.now t.entries t.held)) [] c.in_ok-based.based.items) c.in_ok-points.ensures c.in_ok-based.ensures in
    subst (All (IsEntryInRange facts facts.program.locations)) (sym c.deref.ensures.value)
    (All-weaker (Contains c.in_ok-based.based.items) (IsEntryInRange facts facts.program.locations)
    (λ b there. ⊎_elim (λ none. absurd (none_there b none)) (λ found. found.4.in_range) (adds.sound b there))
    c.in_ok-based.based.items (All-contains_itself c.in_ok-based.based.items))

pub returns-clause-races : goal.returns-clause-races
returns-clause-races c =
    let facts = c.args.facts.now in
    let setting : Setting = setting_of c.args.after.now c.args.items.now.entries c.args.held.now in
    let adds : Adds facts (setting_of c.args.after.now c.args.items.now.entries c.args.held.now) (IsInConflict facts (setting_of c.args.after.now c.args.items.now.entries c.args.held.now)) [] c.in_ok-based.based.items =
    subst (λ (t : PointTable). Adds t.facts (setting_of c.args.after.now t.entries t.held) (IsInConflict t.facts (setting_of c.args.after.now t.entries t.held)) [] c.in_ok-based.based.items) c.in_ok-points.ensures c.in_ok-based.ensures in
    subst (λ (table : ConflictTable). AreRaces (basis_of facts) setting (has_of table.entries) (locks_of table.entries)) (sym c.in_ok-conflicts.ensures)
    (races_are facts setting c.deref.result.now c.in_ok-races.races
    (subst (λ (based : List (Correlation × List ℕ)). Adds facts setting (IsInConflict facts setting) [] based) (sym c.deref.ensures.value) adds)
    c.in_ok-races.ensures.risen)

pub returns-clause-racing : goal.returns-clause-racing
returns-clause-racing c =
    subst (λ (table : ConflictTable). AreRacingLists (basis_of c.args.facts.now) table.entries table.racing) (sym c.in_ok-conflicts.ensures) c.in_ok-racing.ensures

pub returns-clause-in_range : goal.returns-clause-in_range
returns-clause-in_range c =
    let facts = c.args.facts.now in
    subst (λ (table : ConflictTable). All (IsEntryInRange facts facts.program.locations) table.entries) (sym c.in_ok-conflicts.ensures) c.in_ok-races.ensures.in_range
