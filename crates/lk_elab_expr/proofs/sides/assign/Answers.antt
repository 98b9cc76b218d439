use Rattle.std.proofs.Common.{◌≡◌, ◌∙◌, sym, subst}
use Rattle.std.specs.Prelude.{IfOk}
use Rattle.lk_tree.specs.declared.expression.DeclaratorForm.TheOpen.{ExprForm-F}
use Rattle.lk_typed.specs.Elaborated.{form_of}
use Rattle.lk_elab_expr.specs.Deciding.{DecidesTwo}
use Rattle.lk_elab_expr.proofs.Assigned.{plain_is}
use Rattle.lk_elab_expr.proofs.sides.assign.Goals as goal

pub returns-in-None-clause-two : goal.returns-in-None-clause-two
returns-in-None-clause-two c = λ folded.
    let plain = plain_is c.args.op (sym c.operator_of.ensures ∙ c.in-None.is) in
    subst (λ o. IfOk c.assignment.result (DecidesTwo c.args.walk.now c.assignment.new.walk c.args.left c.args.right folded (λ p l r. form_of p ≡ ExprForm-F.Assign o l r)))
    (sym plain) (c.assignment.ensures.two folded)

pub returns-in-Some-clause-two : goal.returns-in-Some-clause-two
returns-in-Some-clause-two c = c.compound.ensures.two c.args.op (sym c.operator_of.ensures ∙ c.in-Some.is)
