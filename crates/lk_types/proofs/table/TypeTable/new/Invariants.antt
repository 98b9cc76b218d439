use Rattle.std.proofs.Common.{◌≡◌, ◌-◌, ◌≤◌, [], take}
use Rattle.lk_types.specs.Predeclared.{predeclared}
use Rattle.lk_types.proofs.table.TypeTable.new.Given as goal

abbrev pub invariant-loop-form : goal.invariant-loop-form
invariant-loop-form l = (l.table.types ≡ take l.number predeclared) × (l.table.members ≡ []) × (l.table.parts ≡ []) × (l.number ≤ 19)

abbrev pub decreases-loop-form : goal.decreases-loop-form
decreases-loop-form l = 19 - l.number
