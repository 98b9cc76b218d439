use Rattle.std.proofs.Common.{◌∙◌, sym, ap, subst}
use Rattle.std.specs.Prelude.{is_some}
use Rattle.std.specs.Option.{option_map}
use Rattle.lk_typed.specs.Meaning.{meaning}
use Rattle.lk_typed.specs.Places as spec
use Rattle.lk_typed.specs.Typings.{typing, structs_in, IsVerdict}
use Rattle.lk_typed.specs.declared.verdict.Verdict.TheVariants.{Broken}
use Rattle.lk_check_expr.proofs.fields.arrow.Goals as goal

pub returns-in-Some : goal.returns-in-Some
returns-in-Some c = λ p.
    let table = c.args.types.now in
    let x = typing table c.args.e.now p in
    subst (λ target. IsVerdict table c.arrow_target.result (spec.arrow_of (structs_in table c.args.structs.now) x c.args.name.now target))
    (sym (sym c.target_of.ensures.value ∙ ap (option_map (meaning table)) c.in-Some.is)) (c.arrow_target.ensures x)

pub returns-in-None : goal.returns-in-None
returns-in-None c = λ p.
    let table = c.args.types.now in
    let x = typing table c.args.e.now p in
    let none = sym c.target_of.ensures.value ∙ ap (option_map (meaning table)) c.in-None.is in
    subst (λ target. IsVerdict table (Broken c.no_pointer_code.result) (spec.arrow_of (structs_in table c.args.structs.now) x c.args.name.now target)) (sym none)
    (c.no_pointer_code.ensures (ap is_some none))
