use Rattle.lk_ordinals.specs.Parts as part
use Rattle.lk_ordinals.proofs.Rows.{AreNumbered}
use Rattle.lk_ordinals.proofs.declaration.+initialisers.Given as goal

abbrev pub invariant-entries_of_in-loop-i : goal.invariant-entries_of_in-loop-i
invariant-entries_of_in-loop-i l = (AreNumbered part.entry l.fn.tree l.fn.first l.tree l.i l.next) × goal.unvisited-entries_of_in-loop-i l
