use Rattle.std.proofs.Common.{◌∙◌, ◌++◌, ap, subst}
use Rattle.lk_typed.specs.Assignments as spec
use Rattle.lk_typed.specs.Operators.{must_be, is_scalar, result_of, row_of}
use Rattle.lk_typed.specs.Typing.{NotAddress}
use Rattle.lk_typed.specs.Codes.{or_behind}
use Rattle.lk_typed.specs.Meaning.{meaning_of}
use Rattle.lk_typed.specs.Typings.{typing, structs_in, IsResult}
use Rattle.lk_typed.proofs.Verdicts.{both_least, result_operand}
use Rattle.lk_check_expr.proofs.Rows.{behind_least}
use Rattle.lk_check_expr.proofs.assignments.computed_code.Goals as goal

pub returns : goal.returns
returns c = λ p q.
    let table = c.args.types.now in
    let x = typing table c.args.a.now p in
    let y = typing table c.args.b.now q in
    let structs = structs_in table c.args.structs.now in
    let target = meaning_of table c.args.target.now in
    let first = must_be is_scalar x.type in
    let second = must_be is_scalar y.type in
    let found = result_of structs (row_of c.args.op) x y in
    let row = subst (λ row. IsResult table c.result_of-computed.result (result_of structs row x y)) c.row_of-row.ensures.value (c.result_of-computed.ensures p q) in
    let operands = both_least first second c.scalar_code-first.ensures c.scalar_code-second.ensures c.lesser-operands.ensures in
    c.or_behind.ensures ∙ ap (λ code. or_behind code c.back_code-back.result) operands ∙
    ap (or_behind _) (c.back_code-back.ensures found row) ∙ behind_least (first ++ second) (spec.back_codes target found)

pub back_code-back-requires-clause-computed : goal.back_code-back-requires-clause-computed
back_code-back-requires-clause-computed c =
    let table = c.args.types.now in
    let x = typing table c.args.a.now NotAddress in
    let y = typing table c.args.b.now NotAddress in
    result_operand table c.result_of-computed.result (result_of (structs_in table c.args.structs.now) c.row_of-row.result x y) (c.result_of-computed.ensures NotAddress NotAddress)
