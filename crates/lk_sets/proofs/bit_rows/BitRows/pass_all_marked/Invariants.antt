use Rattle.lk_sets.proofs.Marking.{Passing}
use Rattle.lk_sets.proofs.bit_rows.BitRows.pass_all_marked.Given as goal

abbrev pub invariant-loop-arrow : goal.invariant-loop-arrow
invariant-loop-arrow l = Passing l.arrows l.initial.self l.self l.marks.items l.initial.grown.items l.grown.items l.changed l.arrow-index
