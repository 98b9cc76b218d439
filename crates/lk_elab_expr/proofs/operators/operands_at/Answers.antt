use Rattle.std.proofs.Common.{◌≡◌, subst}
use Rattle.lk_typed.proofs.Verdicts.{then_both}
use Rattle.lk_typed.specs.Addresses.{value}
use Rattle.lk_typed.specs.Operands.{moves_by_right, operand_types}
use Rattle.lk_typed.specs.Typings.{ForBoth}
use Rattle.lk_elab_expr.specs.OperandTypes.{types_in}
use Rattle.lk_elab_expr.proofs.operators.operands_at.Goals as goal

pub returns-clause-operands : goal.returns-clause-operands
returns-clause-operands c = λ l r first second left right.
    let table = c.args.walk.now.types in
    let x = c.in_ok-x.ensures.value l first left in
    let y = c.in_ok-y.ensures.value r second right in
    let types = subst (λ table. ForBoth table c.in_ok-x.x c.in_ok-y.y (λ x y. types_in table c.operand_types.result ≡ operand_types c.args.row x y)) c.table-types.ensures.value c.operand_types.ensures.value in
    let moves = subst (λ table. ForBoth table c.in_ok-x.x c.in_ok-y.y (λ x y. c.moves_by_right.result ≡ moves_by_right c.args.row x y)) c.table-types.ensures.value c.moves_by_right.ensures in
    record {
      left = x.typing;
      right = y.typing;
      left_found = x.found;
      right_found = y.found;
      types = then_both table c.in_ok-x.x c.in_ok-y.y (value x.typing) (value y.typing) (λ x y. types_in table c.operand_types.result ≡ operand_types c.args.row x y) x.is y.is types;
      moves = then_both table c.in_ok-x.x c.in_ok-y.y (value x.typing) (value y.typing) (λ x y. c.moves_by_right.result ≡ moves_by_right c.args.row x y) x.is y.is moves;
    }
