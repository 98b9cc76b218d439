use Rattle.std.proofs.Common.{◌≡◌, ◌∙◌, Some, map, sym, subst}
use Rattle.std.proofs.lemmas.List.Elements.{All-tail}
use Rattle.lk_types.specs.Table.{IsKnown}
use Rattle.lk_typed.specs.Calls as spec
use Rattle.lk_typed.specs.Library as rows
use Rattle.lk_typed.specs.Meaning.{meaning}
use Rattle.lk_check_expr.specs.Functions.{parameter_in, row_of, rows_of}
use Rattle.lk_check_expr.specs.Signatures.{signature_in}
use Rattle.lk_check_expr.proofs.Arguments.{parameters_passed, row_passes}
use Rattle.lk_check_expr.proofs.FunctionRows.{row_there}
use Rattle.lk_check_expr.proofs.calls.passes_by.Goals as goal

pub returns-in-Some-clause-passed : goal.returns-in-Some-clause-passed
returns-in-Some-clause-passed c = λ table known.
    let s = signature_in table c.args.signature.now in
    let function = c.in-Some.function in
    subst (λ called. map parameter_in c.parameters.result.now ≡ spec.passes_by (row_of called) (Some s)) (sym c.in-Some.is)
    (c.parameters.ensures ∙ row_passes (rows_of function) (Some s) (row_there (Some function)))

pub returns-in-None-clause-passed : goal.returns-in-None-clause-passed
returns-in-None-clause-passed c = λ table known.
    let s = c.args.signature.now in (
      subst (λ called. map (λ t. rows.Converted (meaning table t)) s.params.now ≡ spec.passes_by (row_of called) (Some (signature_in table s))) (sym c.in-None.is) (parameters_passed (meaning table) s.params.now),
      All-tail (IsKnown table) s.result s.params.now known,
    )

pub returns-in-None-clause-known : goal.returns-in-None-clause-known
returns-in-None-clause-known c = λ table known. All-tail (IsKnown table) c.args.signature.now.result c.args.signature.now.params.now known
