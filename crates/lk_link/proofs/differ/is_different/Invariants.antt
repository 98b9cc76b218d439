use Rattle.lk_link.proofs.Differing.{AreAlikeBelow}
use Rattle.lk_link.proofs.differ.is_different.Given as goal

abbrev pub invariant-loop-other : goal.invariant-loop-other
invariant-loop-other l = AreAlikeBelow l.units l.group l.site l.other-index
