use Rattle.std.proofs.Common.{subst}
use Rattle.lk_elab_expr.specs.Allocating.{CountsBeside}
use Rattle.lk_elab_expr.proofs.allocations.product.Goals as goal

pub returns-in-Ok-Some : goal.returns-in-Ok-Some
returns-in-Ok-Some c = λ at_end p l r form left right told_l told_r.
    let is = subst (CountsBeside c.args.walk.now c.args.left.now c.args.right.now) c.in-Ok-Some.field-0-is c.in-Ok-Some.ensures at_end l r left right told_l told_r in (l, r, form, is.0, is.1)
