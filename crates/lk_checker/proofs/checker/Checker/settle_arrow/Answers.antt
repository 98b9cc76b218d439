use Rattle.std.proofs.Common.{subst}
use Rattle.lk_tree.specs.declared.expression.DeclaratorForm.TheOpen.{ExprForm-F}
use Rattle.lk_typed.specs.Addresses.{value}
use Rattle.lk_typed.specs.Places.{arrow_rule}
use Rattle.lk_typed.specs.Typing.{with_one}
use Rattle.lk_found.specs.Judging.{IsRuled}
use Rattle.lk_checker.proofs.Settling.{structs_are}
use Rattle.lk_checker.proofs.checker.Checker.settle_arrow.Goals as goal

pub returns : goal.returns
returns c = λ env behind x is_in plain operand.
    let table = c.args.self.now.types in
    let structs = structs_are c.args.self.now behind c.structs.result.now is_in c.structs.ensures in
    c.in_ok-found.ensures env behind (ExprForm-F.Arrow x c.args.name.now) plain
    (subst (λ structs. IsRuled table c.arrow_ruled-ruled.result (with_one x.typing (λ e. arrow_rule structs (value e) c.args.name.now))) structs (c.arrow_ruled-ruled.ensures x.typing operand.typing))
    (c.look_of_one-look.ensures env x.look operand.look)
