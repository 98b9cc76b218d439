use Rattle.std.proofs.Common.{◌≡◌, drop}
use Rattle.std.specs.List.{position_from}
use Rattle.lk_birth.specs.Births.{is_root}
use Rattle.lk_birth.proofs.births.place_of_root.Given as goal

abbrev pub invariant-loop-place : goal.invariant-loop-place
invariant-loop-place l = position_from (is_root l.root) l.place (drop l.place l.parameters) ≡ position_from (is_root l.root) 0 l.parameters
