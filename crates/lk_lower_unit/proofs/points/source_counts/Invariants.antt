use Rattle.std.proofs.Common.{take}
use Rattle.lk_lower_unit.specs.PointNumbers.{CountSources}
use Rattle.lk_lower_unit.proofs.points.source_counts.Given as goal

abbrev pub invariant-loop-linked : goal.invariant-loop-linked
invariant-loop-linked l = CountSources (take l.linked-index l.sources) l.counts.items
