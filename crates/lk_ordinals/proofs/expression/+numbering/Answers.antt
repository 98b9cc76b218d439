use Rattle.std.proofs.Common.{arith}
use Rattle.lk_tree.specs.Numbers as spec
use Rattle.lk_ordinals.specs.Parts as part
use Rattle.lk_ordinals.proofs.Rows.{ended_list}
use Rattle.lk_ordinals.proofs.expression.+numbering.Goals as goal

pub exprs_in-returns : goal.exprs_in-returns
exprs_in-returns t c = ended_list spec.expr c.args.tree.now c.args.first c.loop-i.tree c.loop-i.i c.loop-i.next c.loop-i.invariant.0 (omega arith)

pub items_in-returns : goal.items_in-returns
items_in-returns t c = ended_list part.item c.args.tree.now c.args.first c.loop-i.tree c.loop-i.i c.loop-i.next c.loop-i.invariant.0 (omega arith)

pub member_declarators_in-returns : goal.member_declarators_in-returns
member_declarators_in-returns t c = ended_list part.member_declarator c.args.tree.now c.args.first c.loop-i.tree c.loop-i.i c.loop-i.next c.loop-i.invariant.0 (omega arith)

pub members_in-returns : goal.members_in-returns
members_in-returns t c = ended_list part.member c.args.tree.now c.args.first c.loop-i.tree c.loop-i.i c.loop-i.next c.loop-i.invariant.0 (omega arith)

pub parameters_in-returns : goal.parameters_in-returns
parameters_in-returns t c = ended_list part.parameter c.args.tree.now c.args.first c.loop-i.tree c.loop-i.i c.loop-i.next c.loop-i.invariant.0 (omega arith)

pub specifiers_of_in-returns : goal.specifiers_of_in-returns
specifiers_of_in-returns t c = ended_list spec.specifier c.args.tree.now c.args.first c.loop-i.tree c.loop-i.i c.loop-i.next c.loop-i.invariant.0 (omega arith)
