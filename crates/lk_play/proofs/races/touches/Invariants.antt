use Rattle.lk_play.proofs.Racing.{AreBelow}
use Rattle.lk_play.proofs.races.touches.Given as goal

-- the threads so far are looked at
abbrev pub invariant-loop-thread : goal.invariant-loop-thread
invariant-loop-thread l = AreBelow l.points l.state l.thread l.touches.items
