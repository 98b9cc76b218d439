use Rattle.std.proofs.Common.{take}
use Rattle.lk_join.specs.Numbering.{AreLabelled}
use Rattle.lk_join.proofs.numbers.labelled_row.Given as goal

abbrev pub invariant-loop-place : goal.invariant-loop-place
invariant-loop-place l = AreLabelled l.structs l.labels (take l.place-index l.places) l.row.items
