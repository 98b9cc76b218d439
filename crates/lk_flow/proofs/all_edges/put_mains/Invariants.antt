use Rattle.lk_flow.specs.Counting.{MainAt, UpTo}
use Rattle.lk_flow.specs.Growing.{Adds, Joins}
use Rattle.lk_flow.proofs.all_edges.put_mains.Given as goal

abbrev pub invariant-loop-r : goal.invariant-loop-r
invariant-loop-r l = Adds (Joins l.labels.names (UpTo (MainAt l.points) l.r)) l.initial.found l.found
