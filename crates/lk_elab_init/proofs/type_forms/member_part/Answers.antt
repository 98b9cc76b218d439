use Rattle.std.proofs.Common.{◌∙◌, ap}
use Rattle.std.specs.Option.{option_map}
use Rattle.std.proofs.lemmas.Option.{slice_get-map}
use Rattle.lk_types.specs.Building.{types_of}
use Rattle.lk_types.specs.Table.{members_of}
use Rattle.lk_typed.specs.Meaning.{meaning}
use Rattle.lk_elab_init.proofs.Members.{member_at}
use Rattle.lk_elab_init.proofs.type_forms.member_part.Goals as goal

pub returns-in-Some-clause-member : goal.returns-in-Some-clause-member
returns-in-Some-clause-member c =
    let table = c.args.types.now in
    let found = c.in-Some.ensures.lookup in
    slice_get-map (meaning table) (types_of (members_of table c.args.s)) c.args.number ∙
    ap (option_map (meaning table)) (member_at table c.args.s c.args.number c.members.result.now c.in-Some.member.now c.members.ensures found.3.0 found.1)
