use Rattle.std.proofs.Common.{◌≡◌, drop, take, ◌++◌, ◌∷◌, ◌+◌}
use Rattle.std.specs.Prelude.{map}
use Rattle.lk_change.specs.Fills.{first_index}
use Rattle.lk_change.proofs.fills.counted.Given as goal

abbrev pub invariant-loop-step : goal.invariant-loop-step
invariant-loop-step l = (l.step-items ≡ drop (l.place + 1) l.path) × (l.counted ++ map first_index (drop l.step-index l.step-items) ≡ take l.place l.path ++ l.fn.next ∷ map first_index l.step-items)
