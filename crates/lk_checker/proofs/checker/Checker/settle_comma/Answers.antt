use Rattle.lk_tree.specs.declared.expression.DeclaratorForm.TheOpen.{ExprForm-F}
use Rattle.lk_checker.proofs.checker.Checker.settle_comma.Goals as goal

pub returns : goal.returns
returns c = λ env behind x y is_in plain first second.
    c.in_ok-found.ensures env behind (ExprForm-F.Comma x y) plain (c.comma_ruled-ruled.ensures x.typing y.typing first.typing second.typing)
    (c.look_of_two-look.ensures env x.look y.look first.look second.look)
