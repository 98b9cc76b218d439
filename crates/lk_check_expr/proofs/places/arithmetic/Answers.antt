use Rattle.std.proofs.Common.{subst}
use Rattle.lk_typed.specs.Operators.{must_be}
use Rattle.lk_typed.specs.Places as spec
use Rattle.lk_typed.specs.Ty.{is_integer, kind_of}
use Rattle.lk_typed.specs.Typings.{typing, IsResult}
use Rattle.lk_typed.proofs.Verdicts.{row_verdict}
use Rattle.lk_check_expr.proofs.places.arithmetic.Goals as goal

pub returns : goal.returns
returns c = λ p.
    let table = c.args.types.now in
    let x = typing table c.args.e.now p in
    let row = subst (λ kind. IsResult table c.at_promoted_kind-row.result (spec.at_promoted_kind c.args.op x kind)) c.kind_of-kind.ensures (c.at_promoted_kind-row.ensures table c.requires.ready p) in
    row_verdict table c.at_promoted_kind-row.result (must_be is_integer x.type) (spec.at_promoted_kind c.args.op x (kind_of x.type)) c.by_row.ensures c.integer_code-code.ensures row
