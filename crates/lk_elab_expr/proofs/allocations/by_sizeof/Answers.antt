use Rattle.std.proofs.Common.{◌∙◌, sym, ap}
use Rattle.std.proofs.lemmas.Result.{IfOk-weaker}
use Rattle.lk_tree.specs.declared.expression.Expr.{Expr}
use Rattle.lk_elab_expr.proofs.Sizing.{product_at}
use Rattle.lk_elab_expr.proofs.allocations.by_sizeof.Goals as goal

pub returns-in-Binary : goal.returns-in-Binary
returns-in-Binary c = IfOk-weaker c.by_factors.result _ _ (λ size is at_end p at told.
    let q = product_at at_end c.args.walk.now p c.in-Binary.op c.in-Binary.left c.in-Binary.right (ap (λ (e : Expr). e.form) at ∙ c.in-Binary.is) told in
    is at_end p q.left q.right q.form (q.left_is ∙ sym c.get.ensures) (q.right_is ∙ sym c.get-in-Binary.ensures) q.left_told q.right_told) c.by_factors.ensures
