use Rattle.lk_flow.specs.Growing.{Adds, Joins}
use Rattle.lk_flow.specs.Rows.{PassesTo}
use Rattle.lk_flow.proofs.rows.put_arguments.Given as goal

abbrev pub invariant-loop-k : goal.invariant-loop-k
invariant-loop-k l = Adds (Joins l.labels.names (PassesTo l.points l.fn.site l.fn.f l.args l.k)) l.initial.found l.found
