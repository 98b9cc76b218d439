use Rattle.lk_conflict.specs.Settings.{setting}
use Rattle.std.proofs.Common.{◌≡◌, ◌<◌}
use Rattle.lk_conflict.specs.Bases.{Adds, IsInConflict}
use Rattle.lk_conflict.proofs.grounds.Grounds.push_at_locations.Given as goal

abbrev pub invariant-loop-location : goal.invariant-loop-location
invariant-loop-location l =
    Adds l.self.items.now.facts (setting l.self)
    (λ f o i. (f ≡ l.function) × (o < l.location) × IsInConflict l.self.items.now.facts (setting l.self) f o i) l.initial.based.items l.based.items
