use Rattle.std.proofs.Common.{◌≡◌, ◌∙◌, Some, sym, ap, subst}
use Rattle.std.specs.Option.{option_map}
use Rattle.lk_typed.specs.Addresses.{value}
use Rattle.lk_typed.specs.Calls as spec
use Rattle.lk_typed.specs.Codes.{least_code}
use Rattle.lk_typed.specs.Conversions.{is_function_pointer}
use Rattle.lk_typed.specs.Meaning.{meaning_of}
use Rattle.lk_typed.specs.Operators.{must_be}
use Rattle.lk_typed.specs.Ty.{target_of}
use Rattle.lk_typed.specs.Typings.{IsVerdict}
use Rattle.lk_typed.specs.declared.verdict.Verdict.TheVariants.{Broken}
use Rattle.lk_typed.proofs.Verdicts.{then_each}
use Rattle.lk_check_expr.specs.Functions.{row_of}
use Rattle.lk_check_expr.specs.Signatures.{signature_in}
use Rattle.lk_check_expr.proofs.Arguments.{no_signature}
use Rattle.lk_check_expr.proofs.calls.call.Goals as goal

pub returns-in-Some : goal.returns-in-Some
returns-in-Some c = λ env f xs role is are.
    let table = c.args.types.now in
    let called = row_of c.args.function.now.look.called in
    let type = then_each table c.args.function.now.typing f.typing (λ y. meaning_of table c.value-f.result.ty ≡ (value y).type) is.typing (λ p. (c.value-f.ensures.value p).type) in
    let signature = ap (λ t. spec.signature_at (target_of t)) (sym type) ∙ sym c.signature_at.ensures.value ∙ ap (option_map (signature_in table)) c.in-Some.is in
    subst (λ row. IsVerdict table c.call_by.result (spec.call_of env row f.typing (spec.signature_of f.typing) xs)) (sym is.look.called)
    (subst (λ s. IsVerdict table c.call_by.result (spec.call_of env called f.typing s xs)) (sym signature) (c.call_by.ensures env f.typing xs role are))

pub returns-in-None : goal.returns-in-None
returns-in-None c = λ env f xs role is are.
    let table = c.args.types.now in
    let type = then_each table c.args.function.now.typing f.typing (λ y. meaning_of table c.value-f.result.ty ≡ (value y).type) is.typing (λ p. (c.value-f.ensures.value p).type) in
    let none = sym c.signature_at.ensures.value ∙ ap (option_map (signature_in table)) c.in-None.is in
    let signature = ap (λ t. spec.signature_at (target_of t)) (sym type) ∙ none in
    let code = c.no_function_code.ensures (no_signature (target_of (meaning_of table c.value-f.result.ty)) none) in
    subst (λ s. IsVerdict table (Broken c.no_function_code.result) (spec.call_of env (spec.library_called f.look.word) f.typing s xs)) (sym signature)
    (subst (λ t. least_code (must_be is_function_pointer t) ≡ Some c.no_function_code.result) type code)
