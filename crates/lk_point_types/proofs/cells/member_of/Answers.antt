use Rattle.lk_point_types.proofs.MemberLemmas.{member_known}
use Rattle.lk_point_types.proofs.cells.member_of.Goals as goal

pub returns-then-member-members-clause-known : goal.returns-then-member-members-clause-known
returns-then-member-members-clause-known c =
    member_known c.args.types.now c.args.s c.in-Struct.number c.args.member c.get.result.now c.members-members.result.now c.index-members-member.result
    c.get.ensures.made_of c.in-Struct.is c.members-members.ensures c.if-member-members.true
