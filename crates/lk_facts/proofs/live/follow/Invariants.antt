use Rattle.lk_facts.specs.Marks.{AreFound, AreFollowed}
use Rattle.lk_facts.proofs.live.follow.Given as goal

abbrev pub invariant-loop-k : goal.invariant-loop-k
invariant-loop-k l = AreFound l.points l.functions l.marks × AreFollowed l.points l.marks l.k
