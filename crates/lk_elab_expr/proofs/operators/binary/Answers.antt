use Rattle.std.proofs.Common.{◌≡◌, ◌∙◌, None, sym, ap, subst}
use Rattle.std.proofs.lemmas.Result.{IfOk-weaker}
use Rattle.lk_typed.specs.Operands.{computed_by}
use Rattle.lk_typed.specs.Operators.{row_of}
use Rattle.lk_elaborator.specs.Standing.{MakesOwn, form_of_two}
use Rattle.lk_elab_expr.specs.Deciding.{decided_by}
use Rattle.lk_elab_expr.proofs.Decided.{decided}
use Rattle.lk_elab_expr.proofs.operators.binary.Goals as goal

pub returns-in-Some-clause-two : goal.returns-in-Some-clause-two
returns-in-Some-clause-two c = c.computed.ensures.two c.args.op (sym c.row_of-row.ensures.value) (sym c.computed_by.ensures ∙ c.in-Some.is)

pub returns-in-None-clause-two : goal.returns-in-None-clause-two
returns-in-None-clause-two c = IfOk-weaker c.by_values.result _ _ (λ two are p l r form first second own left right tables leads.
    let row = c.row_of-row.ensures.value in
    let none : computed_by (row_of c.args.op) ≡ None = ap computed_by (sym row) ∙ sym c.computed_by.ensures ∙ c.in-None.is in
    let by = are.form_is ∙ c.decided_by.ensures ∙ ap decided_by row in
    record {
      left = are.left_role _ _;
      right = are.right_role _ _;
      gives = λ x y is_x is_y t makes. decided tables c.args.folded p l r x y t (are.left l first left tables leads c.args.folded x is_x) (are.right r second right tables leads c.args.folded y is_y)
          c.args.op none form (subst (λ form. MakesOwn tables p (form_of_two form x y) t) by makes);
    }) c.by_values.ensures.values
