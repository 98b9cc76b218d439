use Rattle.lk_facts.specs.declared.label_entry.LabelName.{LabelName}
use Rattle.lk_flow.specs.Closing.{AreEnds, FieldsBoth}
use Rattle.lk_flow.specs.Counting.{UpTo}
use Rattle.lk_flow.specs.Growing.{Adds, Joins}
use Rattle.lk_flow.proofs.close.put_fields.Given as goal

abbrev pub invariant-loop-k : goal.invariant-loop-k
invariant-loop-k l = (u v : LabelName) → AreEnds l.labels.names l.edge u v → Adds (Joins l.labels.names (UpTo (FieldsBoth l.points u v l.edge.mark) l.k)) l.initial.found l.found
