use Rattle.std.proofs.Common.{◌++◌, subst}
use Rattle.lk_typed.specs.Operators as spec
use Rattle.lk_typed.specs.Typings.{typing, structs_in, IsResult}
use Rattle.lk_typed.proofs.Verdicts.{both_least, row_verdict}
use Rattle.lk_check_expr.proofs.operators.binary.Goals as goal

pub returns : goal.returns
returns c = λ p q.
    let table = c.args.types.now in
    let x = typing table c.args.a.now p in
    let y = typing table c.args.b.now q in
    let structs = structs_in table c.args.structs.now in
    let first = spec.must_be spec.is_scalar x.type in
    let second = spec.must_be spec.is_scalar y.type in
    let row = subst (λ row. IsResult table c.result_of-row.result (spec.result_of structs row x y)) c.row_of-taken.ensures.value (c.result_of-row.ensures p q) in
    row_verdict table c.result_of-row.result (first ++ second) (spec.result_of structs (spec.row_of c.args.op) x y) c.by_row.ensures
    (both_least first second c.scalar_code-first.ensures c.scalar_code-second.ensures c.lesser-code.ensures) row
