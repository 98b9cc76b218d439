use Rattle.std.proofs.Common.{ℕ, ◌<◌}
use Rattle.lk_point_types.proofs.WholeLemmas.{IsHeldAt}
use Rattle.lk_point_types.proofs.functions.are_held.Given as goal

abbrev pub invariant-loop-place : goal.invariant-loop-place
invariant-loop-place l = (k : ℕ) → k < l.place → IsHeldAt l.points l.f l.holders l.types k
