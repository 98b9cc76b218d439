use Rattle.lk_tree.specs.declared.expression.DeclaratorForm.TheOpen.{ExprForm-F}
use Rattle.lk_checker.proofs.checker.Checker.settle_cast.Goals as goal

pub returns : goal.returns
returns c = λ env behind t x is_in plain target operand.
    c.in_ok-found.ensures env behind (ExprForm-F.Cast t x) plain (c.cast_ruled-ruled.ensures t.type x.typing target.type operand.typing)
    (c.look_of_cast-look.ensures env t.holds_sizeof x.look target.holds_sizeof operand.look)
