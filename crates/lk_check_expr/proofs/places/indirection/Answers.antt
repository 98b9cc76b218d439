use Rattle.std.proofs.Common.{subst}
use Rattle.lk_typed.specs.Operators.{must_be}
use Rattle.lk_typed.specs.Places as spec
use Rattle.lk_typed.specs.Ty.{is_pointer, target_of}
use Rattle.lk_typed.specs.Typings.{typing, IsResult}
use Rattle.lk_typed.proofs.Verdicts.{row_verdict}
use Rattle.lk_check_expr.proofs.places.indirection.Goals as goal

pub returns : goal.returns
returns c = λ p.
    let table = c.args.types.now in
    let x = typing table c.args.e.now p in
    let row = subst (λ target. IsResult table c.indirect-row.result (spec.indirect x target)) c.target_of-target.ensures.value (c.indirect-row.ensures x) in
    row_verdict table c.indirect-row.result (must_be is_pointer x.type) (spec.indirect x (target_of x.type)) c.by_row.ensures c.pointer_code-code.ensures row
