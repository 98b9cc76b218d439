use Rattle.std.proofs.Common.{subst}
use Rattle.lk_tree.specs.declared.expression.DeclaratorForm.TheOpen.{ExprForm-F}
use Rattle.lk_typed.specs.Places.{dot_rule}
use Rattle.lk_typed.specs.Typing.{with_one}
use Rattle.lk_found.specs.Judging.{IsRuled}
use Rattle.lk_checker.proofs.Settling.{structs_are}
use Rattle.lk_checker.proofs.checker.Checker.settle_dot.Goals as goal

pub returns : goal.returns
returns c = λ env behind x is_in plain operand.
    let table = c.args.self.now.types in
    let structs = structs_are c.args.self.now behind c.structs.result.now is_in c.structs.ensures in
    c.in_ok-found.ensures env behind (ExprForm-F.Member x c.args.name.now) plain
    (subst (λ structs. IsRuled table c.dot_ruled-ruled.result (with_one x.typing (λ e. dot_rule structs e c.args.name.now))) structs (c.dot_ruled-ruled.ensures x.typing operand.typing))
    (c.look_of_one-look.ensures env x.look operand.look)
