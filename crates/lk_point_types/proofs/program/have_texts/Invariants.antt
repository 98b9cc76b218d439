use Rattle.std.proofs.Common.{ℕ, ◌<◌}
use Rattle.lk_point_types.specs.Each.{HasItsText}
use Rattle.lk_point_types.proofs.program.have_texts.Given as goal

abbrev pub invariant-loop-p : goal.invariant-loop-p
invariant-loop-p l = (p : ℕ) → p < l.p → HasItsText l.points p
