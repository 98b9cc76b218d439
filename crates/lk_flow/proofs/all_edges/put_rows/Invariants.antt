use Rattle.lk_flow.specs.Counting.{RowAt, UpTo}
use Rattle.lk_flow.specs.Growing.{Adds, Joins}
use Rattle.lk_flow.proofs.all_edges.put_rows.Given as goal

abbrev pub invariant-loop-p : goal.invariant-loop-p
invariant-loop-p l = Adds (Joins l.labels.names (UpTo (RowAt l.points) l.p)) l.initial.found l.found
