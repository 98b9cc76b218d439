use Rattle.std.proofs.Common.{◌≡◌, sym, subst}
use Rattle.std.specs.Prelude.{slice_get}
use Rattle.lk_typed.specs.Addresses.{value}
use Rattle.lk_typed.specs.Calls as spec
use Rattle.lk_typed.specs.Meaning.{meaning_of}
use Rattle.lk_typed.specs.Ty.{target_of}
use Rattle.lk_typed.proofs.Verdicts.{then_each}
use Rattle.lk_check_expr.specs.Arguments.{IsPassedAt}
use Rattle.lk_check_expr.specs.Functions.{row_of}
use Rattle.lk_check_expr.proofs.Arguments.{passed_known}
use Rattle.lk_check_expr.proofs.calls.passing.Goals as goal

pub returns-clause-passed : goal.returns-clause-passed
returns-clause-passed c = λ env f is.
    let table = c.args.types.now in
    let type = then_each table c.args.function.now.typing f.typing (λ y. meaning_of table c.value-f.result.ty ≡ (value y).type) is.typing (λ p. (c.value-f.ensures.value p).type) in
    subst (λ row. IsPassedAt table c.passing_by.result (slice_get (spec.passes_by row (spec.signature_of f.typing)) c.args.index)) (sym is.look.called)
    (subst (λ t. IsPassedAt table c.passing_by.result (slice_get (spec.passes_by (row_of c.args.function.now.look.called) (spec.signature_at (target_of t))) c.args.index)) type c.passing_by.ensures)

pub returns-clause-known : goal.returns-clause-known
returns-clause-known c =
    let table = c.args.types.now in
    let signature = spec.signature_at (target_of (meaning_of table c.value-f.result.ty)) in
    passed_known table c.passing_by.result (slice_get (spec.passes_by (row_of c.args.function.now.look.called) signature) c.args.index) c.passing_by.ensures
