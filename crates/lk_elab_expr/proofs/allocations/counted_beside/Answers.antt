use Rattle.std.proofs.Common.{◌∙◌, ap}
use Rattle.std.proofs.lemmas.Result.{IfOk-weaker}
use Rattle.lk_tree.specs.declared.expression.Expr.{Expr}
use Rattle.lk_elab_expr.proofs.Sizing.{and_some}
use Rattle.lk_elab_expr.proofs.Within.{told_of}
use Rattle.lk_elab_expr.proofs.allocations.counted_beside.Goals as goal

pub returns-else-held : goal.returns-else-held
returns-else-held c = IfOk-weaker c.counted_by.result _ _ (λ counted is at_end s n size other told_s told_n.
    and_some counted _ _ (is at_end s size told_s) (c.in_ok-held.ensures n (ap (λ (e : Expr). e.ordinal) other) (told_of at_end c.args.walk.now n told_n) ∙ c.if-held.false)) c.counted_by.ensures
