use Rattle.lk_tree.specs.declared.expression.DeclaratorForm.TheOpen.{ExprForm-F}
use Rattle.lk_checker.proofs.checker.Checker.settle_prefix.Goals as goal

pub returns : goal.returns
returns c = λ env behind x is_in plain operand.
    c.in_ok-found.ensures env behind (ExprForm-F.Prefix c.args.op x) plain (c.prefix_ruled-ruled.ensures x.typing operand.typing) (c.behind_prefix-look.ensures env x.look operand.look)
