use Rattle.lk_facts.specs.declared.label_entry.LabelName.{LabelName}
use Rattle.lk_flow.specs.Closing.{AreEnds, PartsBoth}
use Rattle.lk_flow.specs.Counting.{UpTo}
use Rattle.lk_flow.specs.Growing.{Adds, Joins}
use Rattle.lk_flow.proofs.close.put_parts.Given as goal

abbrev pub invariant-loop-part : goal.invariant-loop-part
invariant-loop-part l = (u v : LabelName) → AreEnds l.labels.names l.edge u v → Adds (Joins l.labels.names (UpTo (PartsBoth l.points u v l.edge.mark) l.part-index)) l.initial.found l.found
