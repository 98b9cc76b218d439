use Rattle.std.proofs.Common.{◌≡◌, ◌∙◌, List, Some, None, map, sym, ap, subst}
use Rattle.std.specs.Prelude.{slice_get, IfSome}
use Rattle.std.specs.Option.{option_map}
use Rattle.std.proofs.lemmas.List.Elements.{All-tail}
use Rattle.lk_types.specs.Table.{IsKnown}
use Rattle.lk_typed.specs.Calls as spec
use Rattle.lk_typed.specs.Library as rows
use Rattle.lk_typed.specs.Meaning.{meaning}
use Rattle.lk_check_expr.specs.Arguments.{IsPassedAt}
use Rattle.lk_check_expr.specs.Signatures.{HasKnownTypes, signature_in}
use Rattle.lk_check_expr.proofs.Arguments.{parameters_passed}
use Rattle.lk_check_expr.proofs.calls.passing_to.Goals as goal

pub returns-in-Some : goal.returns-in-Some
returns-in-Some c =
    let table = c.args.types.now in
    let s = c.in-Some.signature in
    let passes : List rows.Passing → Type 0 = λ ps. IsPassedAt table c.type_at.result (slice_get ps c.args.index) in
    let known : HasKnownTypes table s = subst (λ o. IfSome o (HasKnownTypes table)) c.in-Some.is c.signature_at.ensures.known in
    let signature = sym (c.signature_at.ensures.value) ∙ ap (option_map (signature_in table)) c.in-Some.is in
    subst passes (ap (spec.passes_by None) (sym signature))
    (subst passes (parameters_passed (meaning table) s.params.now) (c.type_at.ensures table (All-tail (IsKnown table) s.result s.params.now known)))
