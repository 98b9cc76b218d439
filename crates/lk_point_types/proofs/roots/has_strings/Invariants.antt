use Rattle.std.proofs.Common.{ℕ, ◌<◌}
use Rattle.lk_point_types.proofs.WholeLemmas.{IsNotOfStrings}
use Rattle.lk_point_types.proofs.roots.has_strings.Given as goal

-- none of the roots so far is that of the strings
abbrev pub invariant-loop-r : goal.invariant-loop-r
invariant-loop-r l = (r : ℕ) → r < l.r → IsNotOfStrings l.points r
