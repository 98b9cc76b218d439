use Rattle.std.proofs.Common.{take}
use Rattle.lk_facts.specs.Typed.{AreGiven}
use Rattle.lk_point_types.proofs.calls.are_given.Given as goal

abbrev pub invariant-loop-place : goal.invariant-loop-place
invariant-loop-place l = AreGiven l.points (take l.place l.args) (take l.place l.types)
