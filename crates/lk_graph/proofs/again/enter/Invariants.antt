use Rattle.std.proofs.Common.{take}
use Rattle.lk_sets.specs.Adding.{IsGiven}
use Rattle.lk_graph.specs.Again.{GoesInto}
use Rattle.lk_graph.specs.Found.{Finds}
use Rattle.lk_graph.proofs.again.enter.Given as goal

abbrev pub invariant-loop-entering : goal.invariant-loop-entering
invariant-loop-entering l = Finds (IsGiven (GoesInto l.function) (take l.entering-index l.enterings)) l.fn.again l.again
