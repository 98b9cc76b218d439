use Rattle.std.proofs.Common.{◌∙◌, Some, sym, subst}
use Rattle.std.specs.Prelude.{slice_get}
use Rattle.lk_typed.specs.Calls as spec
use Rattle.lk_typed.specs.Meaning.{meaning_of}
use Rattle.lk_typed.specs.Ty.{target_of}
use Rattle.lk_check_expr.specs.Arguments.{IsPassedAt}
use Rattle.lk_check_expr.specs.Functions.{row_of, rows_of}
use Rattle.lk_check_expr.proofs.Arguments.{row_passes}
use Rattle.lk_check_expr.proofs.FunctionRows.{row_there}
use Rattle.lk_check_expr.proofs.calls.passing_by.Goals as goal

pub returns-in-Some : goal.returns-in-Some
returns-in-Some c =
    let table = c.args.types.now in
    let signature = spec.signature_at (target_of (meaning_of table c.args.ty.now)) in
    let function = c.in-Some.function in
    subst (λ called. IsPassedAt table c.parameter_at.result (slice_get (spec.passes_by (row_of called) signature) c.args.index)) (sym c.in-Some.is)
    (subst (λ ps. IsPassedAt table c.parameter_at.result (slice_get ps c.args.index)) (c.parameters.ensures ∙ row_passes (rows_of function) signature (row_there (Some function)))
    (c.parameter_at.ensures table c.requires.ready))

pub returns-in-None : goal.returns-in-None
returns-in-None c =
    let table = c.args.types.now in
    let signature = spec.signature_at (target_of (meaning_of table c.args.ty.now)) in
    subst (λ called. IsPassedAt table c.passing_to.result (slice_get (spec.passes_by (row_of called) signature) c.args.index)) (sym c.in-None.is) c.passing_to.ensures
