use Rattle.std.proofs.Common.{◌++◌, subst}
use Rattle.lk_typed.specs.Operators.{must_be, is_steppable}
use Rattle.lk_typed.specs.Places as spec
use Rattle.lk_typed.specs.Ty.{is_integer, target_of}
use Rattle.lk_typed.specs.Typings.{typing, structs_in, IsResult}
use Rattle.lk_typed.proofs.Verdicts.{both_least, row_verdict}
use Rattle.lk_check_expr.proofs.places.index.Goals as goal

pub returns : goal.returns
returns c = λ p q.
    let table = c.args.types.now in
    let x = typing table c.args.e.now p in
    let y = typing table c.args.i.now q in
    let left = must_be (is_steppable (structs_in table c.args.structs.now)) x.type in
    let inner = must_be is_integer y.type in
    let row = subst (λ target. IsResult table c.element-row.result (spec.element_of x y target)) c.target_of-target.ensures.value (c.element-row.ensures table x y c.target_of-target.ensures.known) in
    row_verdict table c.element-row.result (left ++ inner) (spec.element_of x y (target_of x.type)) c.by_row.ensures
    (both_least left inner c.steppable_code-left.ensures c.integer_code-inner.ensures c.lesser-code.ensures) row
