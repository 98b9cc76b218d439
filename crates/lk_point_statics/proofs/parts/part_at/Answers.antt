use Rattle.std.proofs.Common.{subst}
use Rattle.lk_types.specs.Building.{IsMadeOf}
use Rattle.lk_point_statics.proofs.Steps.{member_known}
use Rattle.lk_point_statics.proofs.parts.part_at.Goals as goal

pub returns-in_ok-member-in-Struct-Field-clause-known : goal.returns-in_ok-member-in-Struct-Field-clause-known
returns-in_ok-member-in-Struct-Field-clause-known c =
    let made = subst (IsMadeOf c.args.types.now c.args.t) c.in-Struct-Field.is-0 c.get.ensures.made_of in
    let found = c.in_ok-member-in-Struct-Field.ensures.lookup in
    member_known c.args.types.now c.in-Struct-Field.s c.in-Struct-Field.k c.members.result.now c.in_ok-member-in-Struct-Field.member.now made.1 c.members.ensures found.3.0 found.1
