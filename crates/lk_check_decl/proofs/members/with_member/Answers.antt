use Rattle.lk_check_decl.proofs.MemberSizes.{with_member}
use Rattle.lk_check_decl.proofs.members.with_member.Goals as goal

pub returns : goal.returns
returns c = λ env before same size. with_member c.args.types.now c.is_table.ensures c.args.t c.requires.known c.args.size env before same size c.with_field.result c.with_field.ensures
