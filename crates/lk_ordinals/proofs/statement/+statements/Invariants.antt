use Rattle.lk_ordinals.specs.Parts as part
use Rattle.lk_ordinals.proofs.Rows.{AreNumbered}
use Rattle.lk_ordinals.proofs.statement.+statements.Given as goal

abbrev pub invariant-block_items_in-loop-i : goal.invariant-block_items_in-loop-i
invariant-block_items_in-loop-i l = (AreNumbered part.block_item l.fn.tree l.fn.first l.tree l.i l.next) × goal.unvisited-block_items_in-loop-i l
