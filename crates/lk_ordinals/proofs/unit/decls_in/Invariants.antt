use Rattle.lk_tree.specs.Numbers as spec
use Rattle.lk_ordinals.proofs.Rows.{AreNumbered}
use Rattle.lk_ordinals.proofs.unit.decls_in.Given as goal

abbrev pub invariant-loop-i : goal.invariant-loop-i
invariant-loop-i l = AreNumbered spec.of_decl l.fn.tree l.fn.first l.tree l.i l.next
