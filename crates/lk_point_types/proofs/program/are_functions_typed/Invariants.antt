use Rattle.std.proofs.Common.{ℕ, ◌<◌}
use Rattle.lk_facts.specs.Typed.{IsFunctionTyped}
use Rattle.lk_point_types.proofs.program.are_functions_typed.Given as goal

abbrev pub invariant-loop-f : goal.invariant-loop-f
invariant-loop-f l = (f : ℕ) → f < l.f → IsFunctionTyped l.points f
