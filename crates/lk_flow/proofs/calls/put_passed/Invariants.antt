use Rattle.lk_flow.specs.Counting.{ParameterOf, UpTo}
use Rattle.lk_flow.specs.Growing.{Adds, Joins}
use Rattle.lk_flow.proofs.calls.put_passed.Given as goal

abbrev pub invariant-loop-k : goal.invariant-loop-k
invariant-loop-k l = Adds (Joins l.labels.names (UpTo (ParameterOf l.points l.fn.g l.fn.site) l.k)) l.initial.found l.found
