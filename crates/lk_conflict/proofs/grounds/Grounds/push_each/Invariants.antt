use Rattle.lk_conflict.specs.Settings.{setting}
use Rattle.std.proofs.Common.{◌≡◌, take, Contains}
use Rattle.lk_sets.specs.Rows.{has}
use Rattle.lk_conflict.specs.Bases.{Adds}
use Rattle.lk_conflict.specs.Kinds.{IsRacingKind, kind_of}
use Rattle.lk_conflict.proofs.grounds.Grounds.push_each.Given as goal

abbrev pub invariant-loop-item : goal.invariant-loop-item
invariant-loop-item l =
    Adds l.self.items.now.facts (setting l.self)
    (λ f o i. (f ≡ l.function) × (o ≡ l.location) × Contains (take l.item-index l.items) i × IsRacingKind l.self.items.now.facts.program (has l.self.after.now) l.items (kind_of l.self.items.now.facts.program i)) l.initial.based.items l.based.items
