use Rattle.std.proofs.Common.{◌∙◌, sym}
use Rattle.lk_check_expr.proofs.Members.{some_member, none_member}
use Rattle.lk_check_expr.proofs.fields.member_in.Goals as goal

pub returns-in-Some : goal.returns-in-Some
returns-in-Some c = λ table p n known.
    some_member table p n c.args.fields.now c.args.name.now c.place.result c.in-Some.ty known (sym c.type_named.ensures ∙ c.in-Some.is) (λ q there. c.place.ensures table q there)

pub returns-in-None : goal.returns-in-None
returns-in-None c = λ table p n known. none_member table p n c.args.fields.now c.args.name.now (sym c.type_named.ensures ∙ c.in-None.is)
