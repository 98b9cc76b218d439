use Rattle.lk_flow.specs.Closing.{IsClosing}
use Rattle.lk_flow.proofs.all_edges.close.Given as goal

abbrev pub invariant-loop-k : goal.invariant-loop-k
invariant-loop-k l = IsClosing l.points l.labels.names l.k l.found
