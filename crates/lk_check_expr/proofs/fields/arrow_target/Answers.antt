use Rattle.std.proofs.Common.{◌∙◌, sym, subst}
use Rattle.lk_typed.specs.Meaning.{meaning}
use Rattle.lk_typed.specs.Places as spec
use Rattle.lk_typed.specs.Typings.{structs_in, IsVerdict}
use Rattle.lk_check_expr.proofs.fields.arrow_target.Goals as goal

pub returns-in-Some : goal.returns-in-Some
returns-in-Some c = λ x.
    let table = c.args.types.now in
    subst (λ s. IsVerdict table c.member_of.result (spec.arrow_target (structs_in table c.args.structs.now) x c.args.name.now (meaning table c.args.target) s)) (sym (sym c.struct_of.ensures ∙ c.in-Some.is))
    (c.member_of.ensures table x.address c.requires.members)
