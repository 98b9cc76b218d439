use Rattle.std.proofs.Common.{take}
use Rattle.lk_facts.specs.Marks.{AreMarked}
use Rattle.lk_facts.proofs.live.Marks.put_all.Given as goal

abbrev pub invariant-loop-p : goal.invariant-loop-p
invariant-loop-p l = AreMarked (take l.p-index l.ps) l.fn.self l.self
