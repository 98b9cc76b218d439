use Rattle.std.proofs.Common.{take}
use Rattle.lk_join.specs.Numbering.{AreAllLabelled}
use Rattle.lk_join.proofs.numbers.labelled_rows.Given as goal

abbrev pub invariant-loop-row : goal.invariant-loop-row
invariant-loop-row l = AreAllLabelled l.structs l.labels (take l.row-index l.places) l.rows.items
