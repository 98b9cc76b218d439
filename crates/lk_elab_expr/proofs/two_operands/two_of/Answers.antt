use Rattle.std.proofs.Common.{◌∙◌, refl}
use Rattle.std.proofs.lemmas.Result.{IfOk-weaker}
use Rattle.lk_tree.specs.declared.expression.DeclaratorForm.TheOpen.{ExprForm-F}
use Rattle.lk_tree.specs.declared.expression.ExprForm.TheVariants as tree
use Rattle.lk_elab_expr.proofs.FormsAt.{form_at}
use Rattle.lk_elab_expr.proofs.Within.{told_itself, told_left, told_of, told_right, two_form}
use Rattle.lk_elab_expr.proofs.two_operands.two_of.Goals as goal

pub returns-in-Comma-clause-two : goal.returns-in-Comma-clause-two
returns-in-Comma-clause-two c = IfOk-weaker c.comma.result _ _ (λ two decides at_end p l r of_form at first second told tables leads.
    let walk = c.args.walk.now in
    let form = two_form p l r _ _ (λ j k. ExprForm-F.Comma j k) (λ j k. refl) (form_at p (tree.Comma c.in-Comma.field-0 c.in-Comma.field-1) (ExprForm-F.Comma c.in-Comma.field-0 c.in-Comma.field-1) (of_form ∙ c.in-Comma.is) (tree.rolls-Comma c.in-Comma.field-0 c.in-Comma.field-1)) at in
    decides p l r form first second (told_itself at_end walk p told) (told_of at_end walk l (told_left at_end walk p told l r at)) (told_of at_end walk r (told_right at_end walk p told l r at)) tables leads) (c.comma.ensures.two c.args.folded)

pub returns-in-Assign-clause-two : goal.returns-in-Assign-clause-two
returns-in-Assign-clause-two c = IfOk-weaker c.assign.result _ _ (λ two decides at_end p l r of_form at first second told tables leads.
    let walk = c.args.walk.now in
    let form = two_form p l r _ _ (λ j k. ExprForm-F.Assign c.in-Assign.op j k) (λ j k. refl) (form_at p (tree.Assign c.in-Assign.op c.in-Assign.field-1 c.in-Assign.field-2) (ExprForm-F.Assign c.in-Assign.op c.in-Assign.field-1 c.in-Assign.field-2) (of_form ∙ c.in-Assign.is) (tree.rolls-Assign c.in-Assign.op c.in-Assign.field-1 c.in-Assign.field-2)) at in
    decides p l r form first second (told_itself at_end walk p told) (told_of at_end walk l (told_left at_end walk p told l r at)) (told_of at_end walk r (told_right at_end walk p told l r at)) tables leads) (c.assign.ensures.two c.args.folded)

pub returns-in-Binary-clause-two : goal.returns-in-Binary-clause-two
returns-in-Binary-clause-two c = IfOk-weaker c.binary.result _ _ (λ two decides at_end p l r of_form at first second told tables leads.
    let walk = c.args.walk.now in
    let form = two_form p l r _ _ (λ j k. ExprForm-F.Binary c.in-Binary.op j k) (λ j k. refl) (form_at p (tree.Binary c.in-Binary.op c.in-Binary.field-1 c.in-Binary.field-2) (ExprForm-F.Binary c.in-Binary.op c.in-Binary.field-1 c.in-Binary.field-2) (of_form ∙ c.in-Binary.is) (tree.rolls-Binary c.in-Binary.op c.in-Binary.field-1 c.in-Binary.field-2)) at in
    decides p l r form first second (told_itself at_end walk p told) (told_of at_end walk l (told_left at_end walk p told l r at)) (told_of at_end walk r (told_right at_end walk p told l r at)) tables leads) c.binary.ensures.two

pub returns-in-Index-clause-two : goal.returns-in-Index-clause-two
returns-in-Index-clause-two c = IfOk-weaker c.index.result _ _ (λ two decides at_end p l r of_form at first second told tables leads.
    let walk = c.args.walk.now in
    let form = two_form p l r _ _ (λ j k. ExprForm-F.Index j k) (λ j k. refl) (form_at p (tree.Index c.in-Index.field-0 c.in-Index.field-1) (ExprForm-F.Index c.in-Index.field-0 c.in-Index.field-1) (of_form ∙ c.in-Index.is) (tree.rolls-Index c.in-Index.field-0 c.in-Index.field-1)) at in
    decides p l r form first second (told_itself at_end walk p told) (told_of at_end walk l (told_left at_end walk p told l r at)) (told_of at_end walk r (told_right at_end walk p told l r at)) tables leads) c.index.ensures.two
