use Rattle.std.proofs.Common.{◌≡◌, drop}
use Rattle.std.specs.List.{position_from}
use Rattle.lk_birth.specs.Births.{is_slot}
use Rattle.lk_birth.proofs.births.place_of_slot.Given as goal

abbrev pub invariant-loop-place : goal.invariant-loop-place
invariant-loop-place l = position_from (is_slot l.slot) l.place (drop l.place l.parameters) ≡ position_from (is_slot l.slot) 0 l.parameters
