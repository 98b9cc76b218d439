use Rattle.lk_conflict.specs.Facts.{setting_of}
use Rattle.std.proofs.Common.{◌<◌, []}
use Rattle.lk_conflict.specs.Bases.{Adds, IsInConflict}
use Rattle.lk_conflict.proofs.racing.begun.Given as goal

abbrev pub invariant-loop-function : goal.invariant-loop-function
invariant-loop-function l =
    Adds l.fn.items.facts (setting_of l.fn.after l.fn.items.entries l.fn.items.held)
    (λ f o i. (f < l.function) × IsInConflict l.fn.items.facts (setting_of l.fn.after l.fn.items.entries l.fn.items.held) f o i) [] l.based.items
