use Rattle.lk_tree.specs.declared.expression.DeclaratorForm.TheOpen.{ExprForm-F}
use Rattle.lk_checker.proofs.checker.Checker.settle_choice.Goals as goal

pub returns : goal.returns
returns c = λ env behind z x y is_in plain condition first second.
    c.in_ok-found.ensures env behind (ExprForm-F.Choice z x y) plain (c.choice_ruled-ruled.ensures z.typing x.typing y.typing condition.typing first.typing second.typing)
    (c.look_of_three-look.ensures env z.look x.look y.look condition.look first.look second.look)
