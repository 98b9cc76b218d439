use Rattle.std.proofs.Common.{◌∙◌, sym, subst}
use Rattle.std.proofs.lemmas.Result.{IfOk-weaker}
use Rattle.lk_elab_expr.specs.Allocating.{IsProductBy}
use Rattle.lk_elab_expr.proofs.Sizing.{multiply_is}
use Rattle.lk_elab_expr.proofs.allocations.by_factors.Goals as goal

pub returns-then-is_multiply : goal.returns-then-is_multiply
returns-then-is_multiply c = IfOk-weaker c.product.result _ _ (λ size is.
    subst (λ o. IsProductBy c.args.walk.now o c.args.left.now c.args.right.now size) (sym (multiply_is c.args.op (sym c.is_multiply.ensures ∙ c.if-is_multiply.true))) is) c.product.ensures
