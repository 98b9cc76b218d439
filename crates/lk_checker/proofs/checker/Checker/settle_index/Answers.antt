use Rattle.std.proofs.Common.{subst}
use Rattle.lk_tree.specs.declared.expression.DeclaratorForm.TheOpen.{ExprForm-F}
use Rattle.lk_typed.specs.Addresses.{value}
use Rattle.lk_typed.specs.Places.{index_rule}
use Rattle.lk_typed.specs.Typing.{with_two}
use Rattle.lk_found.specs.Judging.{IsRuled}
use Rattle.lk_checker.proofs.Settling.{structs_are}
use Rattle.lk_checker.proofs.checker.Checker.settle_index.Goals as goal

pub returns : goal.returns
returns c = λ env behind x y is_in plain first second.
    let table = c.args.self.now.types in
    let structs = structs_are c.args.self.now behind c.structs.result.now is_in c.structs.ensures in
    c.in_ok-found.ensures env behind (ExprForm-F.Index x y) plain
    (subst (λ structs. IsRuled table c.index_ruled-ruled.result (with_two x.typing y.typing (λ a i. index_rule structs (value a) (value i)))) structs (c.index_ruled-ruled.ensures x.typing y.typing first.typing second.typing))
    (c.look_of_two-look.ensures env x.look y.look first.look second.look)
