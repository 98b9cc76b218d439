use Rattle.lk_tree.specs.declared.expression.DeclaratorForm.TheOpen.{ExprForm-F}
use Rattle.lk_checker.proofs.checker.Checker.settle_paren.Goals as goal

pub returns : goal.returns
returns c = λ env behind x is_in plain operand.
    c.in_ok-found.ensures env behind (ExprForm-F.Paren x) plain (c.paren_ruled-ruled.ensures c.args.self.now.types x.typing operand.typing) (c.in_parentheses-look.ensures env x.look operand.look)
