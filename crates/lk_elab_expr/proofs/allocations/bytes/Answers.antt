use Rattle.std.proofs.Common.{◌∙◌, ap}
use Rattle.lk_tree.specs.declared.expression.Expr.{Expr}
use Rattle.lk_elab_expr.proofs.Within.{told_of}
use Rattle.lk_elab_expr.proofs.allocations.bytes.Goals as goal

pub returns : goal.returns
returns c = λ at_end p at told r stands.
    (c.in_ok-held.ensures p (ap (λ (e : Expr). e.ordinal) at) (told_of at_end c.args.walk.now p told) ∙ c.if-held.false, c.in_ok-element.ensures r stands)
