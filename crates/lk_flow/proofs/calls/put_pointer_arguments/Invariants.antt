use Rattle.lk_flow.specs.Counting.{ArgumentThrough, UpTo}
use Rattle.lk_flow.specs.Growing.{Adds, Joins}
use Rattle.lk_flow.proofs.calls.put_pointer_arguments.Given as goal

abbrev pub invariant-loop-k : goal.invariant-loop-k
invariant-loop-k l = Adds (Joins l.labels.names (UpTo (ArgumentThrough l.points l.fn.a l.args) l.k)) l.initial.found l.found
