use Rattle.std.proofs.Common.{◌≡◌}
use Rattle.lk_birth.specs.Births.{slots_below}
use Rattle.lk_birth.proofs.births.first_slots.Given as goal

-- the slots so far
abbrev pub invariant-loop-slot : goal.invariant-loop-slot
invariant-loop-slot l = l.slots.items ≡ slots_below l.points l.function l.args l.slot
