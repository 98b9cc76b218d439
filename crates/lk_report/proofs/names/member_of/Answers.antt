use Rattle.std.proofs.Common.{◌∙◌, ap, subst, Some}
use Rattle.std.specs.Prelude.{unwrap_or}
use Rattle.lk_types.specs.Building.{IsMadeOf}
use Rattle.lk_types.specs.declared.c_type.CType.TheVariants.{Void}
use Rattle.lk_report.proofs.Paths.{struct_member_known}
use Rattle.lk_report.proofs.names.member_of.Goals as goal

pub returns-in-Struct-clause-known : goal.returns-in-Struct-clause-known
returns-in-Struct-clause-known c m at =
    let now = c.args.types.now in
    let made = subst (IsMadeOf now c.args.t) c.in-Struct.is c.get.ensures.made_of in
    let form = ap (λ o. unwrap_or o Void) (c.get.ensures.value ∙ ap Some c.in-Struct.is) in
    struct_member_known now c.args.t c.in-Struct.s c.requires made form c.args.number m at
