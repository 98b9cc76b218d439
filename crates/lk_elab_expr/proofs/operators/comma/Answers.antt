use Rattle.std.proofs.Common.{subst}
use Rattle.std.proofs.lemmas.Result.{IfOk-weaker}
use Rattle.lk_typed.specs.Elaborated.IsTyped.{comma}
use Rattle.lk_elaborator.specs.Standing.{MakesOwn, form_of_two}
use Rattle.lk_elab_expr.proofs.operators.comma.Goals as goal

pub returns-clause-two : goal.returns-clause-two
returns-clause-two c = λ folded. IfOk-weaker c.by_values.result _ _ (λ two are p l r form first second own left right tables leads. record {
  left = are.left_role _ _;
  right = are.right_role _ _;
  gives = λ x y is_x is_y t makes. comma form (are.left l first left tables leads folded x is_x) (are.right r second right tables leads folded y is_y)
      (subst (λ form. MakesOwn tables p (form_of_two form x y) t) are.form_is makes);
}) c.by_values.ensures.values
