use Rattle.lk_flow.specs.Counting.{ValueAt, UpTo}
use Rattle.lk_flow.specs.Growing.{Adds, Joins}
use Rattle.lk_flow.proofs.all_edges.put_values.Given as goal

abbrev pub invariant-loop-g : goal.invariant-loop-g
invariant-loop-g l = Adds (Joins l.labels.names (UpTo (ValueAt l.points) l.g)) l.initial.found l.found
