use Rattle.lk_tree.specs.Numbers as spec
use Rattle.lk_ordinals.specs.Parts as part
use Rattle.lk_ordinals.proofs.Rows.{AreNumbered}
use Rattle.lk_ordinals.proofs.expression.+numbering.Given as goal

abbrev pub invariant-exprs_in-loop-i : goal.invariant-exprs_in-loop-i
invariant-exprs_in-loop-i l = (AreNumbered spec.expr l.fn.tree l.fn.first l.tree l.i l.next) × goal.unvisited-exprs_in-loop-i l

abbrev pub invariant-items_in-loop-i : goal.invariant-items_in-loop-i
invariant-items_in-loop-i l = (AreNumbered part.item l.fn.tree l.fn.first l.tree l.i l.next) × goal.unvisited-items_in-loop-i l

abbrev pub invariant-member_declarators_in-loop-i : goal.invariant-member_declarators_in-loop-i
invariant-member_declarators_in-loop-i l = (AreNumbered part.member_declarator l.fn.tree l.fn.first l.tree l.i l.next) × goal.unvisited-member_declarators_in-loop-i l

abbrev pub invariant-members_in-loop-i : goal.invariant-members_in-loop-i
invariant-members_in-loop-i l = (AreNumbered part.member l.fn.tree l.fn.first l.tree l.i l.next) × goal.unvisited-members_in-loop-i l

abbrev pub invariant-parameters_in-loop-i : goal.invariant-parameters_in-loop-i
invariant-parameters_in-loop-i l = (AreNumbered part.parameter l.fn.tree l.fn.first l.tree l.i l.next) × goal.unvisited-parameters_in-loop-i l

abbrev pub invariant-specifiers_of_in-loop-i : goal.invariant-specifiers_of_in-loop-i
invariant-specifiers_of_in-loop-i l = (AreNumbered spec.specifier l.fn.tree l.fn.first l.tree l.i l.next) × goal.unvisited-specifiers_of_in-loop-i l
