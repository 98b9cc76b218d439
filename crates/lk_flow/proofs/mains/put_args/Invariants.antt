use Rattle.lk_flow.specs.Counting.{ArgsAt, UpTo}
use Rattle.lk_flow.specs.Growing.{Adds, Joins}
use Rattle.lk_flow.proofs.mains.put_args.Given as goal

abbrev pub invariant-loop-q : goal.invariant-loop-q
invariant-loop-q l = Adds (Joins l.labels.names (UpTo (ArgsAt l.points l.fn.r) l.q)) l.initial.found l.found
