use Rattle.std.proofs.Common.{◌∙◌, sym, ap}
use Rattle.std.specs.Option.{option_map}
use Rattle.lk_typed.specs.Meaning.{meaning}
use Rattle.lk_typed.specs.Ty.{holds_of}
use Rattle.lk_check_expr.specs.Signatures.{is_routine_signature, signature_in}
use Rattle.lk_check_expr.proofs.Routines.{same_routine}
use Rattle.lk_check_expr.proofs.looks.is_routine_type.Goals as goal

pub returns-in-Some : goal.returns-in-Some
returns-in-Some c =
    let table = c.args.types.now in
    let signature = sym c.function_at.ensures.value ∙ ap (option_map (signature_in table)) c.in-Some.is in
    c.is_routine_signature.ensures ∙ sym (same_routine (meaning table c.args.t) ∙ ap (λ o. holds_of o is_routine_signature) signature)

pub returns-in-None : goal.returns-in-None
returns-in-None c =
    let table = c.args.types.now in
    let signature = sym c.function_at.ensures.value ∙ ap (option_map (signature_in table)) c.in-None.is in
    sym (same_routine (meaning table c.args.t) ∙ ap (λ o. holds_of o is_routine_signature) signature)
