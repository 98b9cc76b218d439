use Rattle.lk_play.specs.Calls.{AreFoundBelow}
use Rattle.lk_play.proofs.races.all_raced.Given as goal

-- the locations at which the threads so far race are found
abbrev pub invariant-loop-thread : goal.invariant-loop-thread
invariant-loop-thread l = AreFoundBelow l.points l.state l.touches l.thread l.found.items
