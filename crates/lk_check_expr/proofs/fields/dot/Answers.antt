use Rattle.std.proofs.Common.{◌∙◌, [], ◌∷◌, sym, subst}
use Rattle.std.specs.Prelude.{if◌then◌else◌}
use Rattle.lk_base.specs.declared.code.Code.TheVariants.{Mismatch}
use Rattle.lk_typed.specs.Env.{members_of}
use Rattle.lk_typed.specs.Places as spec
use Rattle.lk_typed.specs.Typing.{Broken}
use Rattle.lk_typed.specs.Typings.{typing, structs_in, IsVerdict}
use Rattle.lk_check_expr.proofs.fields.dot.Goals as goal

pub returns-then-e : goal.returns-then-e
returns-then-e c = λ p.
    let table = c.args.types.now in
    let x = typing table c.args.e.now p in
    let structs = structs_in table c.args.structs.now in
    let name = c.args.name.now in
    let member = spec.member_of Mismatch p name (members_of structs c.in-Some.s) in
    subst (λ s. IsVerdict table c.member_of.result (spec.dot_of structs x name s)) (sym (sym c.struct_of.ensures ∙ c.in-Some.is))
    (subst (λ place. IsVerdict table c.member_of.result (if place then member else Broken (Mismatch ∷ []))) (sym c.if-e.true) (c.member_of.ensures table p c.requires.members))
