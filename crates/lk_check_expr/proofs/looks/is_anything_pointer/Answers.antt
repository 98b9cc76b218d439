use Rattle.std.proofs.Common.{◌∙◌, sym, ap}
use Rattle.std.specs.Option.{option_map}
use Rattle.lk_typed.specs.Meaning.{meaning}
use Rattle.lk_typed.specs.Ty.{holds_of, is_void}
use Rattle.lk_check_expr.proofs.Routines.{same_anything}
use Rattle.lk_check_expr.proofs.looks.is_anything_pointer.Goals as goal

pub returns-in-Some : goal.returns-in-Some
returns-in-Some c =
    let table = c.args.types.now in
    let target = sym c.target_of.ensures.value ∙ ap (option_map (meaning table)) c.in-Some.is in
    c.is_void.ensures ∙ sym (same_anything (meaning table c.args.t) ∙ ap (λ o. holds_of o is_void) target)

pub returns-in-None : goal.returns-in-None
returns-in-None c =
    let table = c.args.types.now in
    let target = sym c.target_of.ensures.value ∙ ap (option_map (meaning table)) c.in-None.is in
    sym (same_anything (meaning table c.args.t) ∙ ap (λ o. holds_of o is_void) target)
