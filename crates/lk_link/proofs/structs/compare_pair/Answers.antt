use Rattle.std.proofs.Common.{◌≡◌, ◌∙◌, true, refl}
use Rattle.std.proofs.lemmas.Option.{slice_get_within}
use Rattle.lk_link.proofs.Pairing.{side_struct, side_members, side_members_in, members_answered, pair_answered}
use Rattle.lk_link.proofs.structs.compare_pair.Goals as goal

pub side_of-first-requires-clause-known : goal.side_of-first-requires-clause-known
side_of-first-requires-clause-known c = slice_get_within c.args.units.now c.args.pair.first.source c.requires.known.first.unit c.requires.known.first.at

pub side_of-second-requires-clause-known : goal.side_of-second-requires-clause-known
side_of-second-requires-clause-known c = slice_get_within c.args.units.now c.args.pair.second.source c.requires.known.second.unit c.requires.known.second.at

pub members-members-requires : goal.members-members-requires
members-members-requires c = side_struct c.args.units.now c.args.becomes.now c.args.pair.first.source c.side_of-first.result c.side_of-first.ensures c.args.pair.first refl c.requires.known.first

pub members-others-requires : goal.members-others-requires
members-others-requires c = side_struct c.args.units.now c.args.becomes.now c.args.pair.second.source c.side_of-second.result c.side_of-second.ensures c.args.pair.second refl c.requires.known.second

pub compare_members-requires-clause-first : goal.compare_members-requires-clause-first
compare_members-requires-clause-first c =
    side_members c.args.units.now c.args.becomes.now c.args.pair.first.source c.side_of-first.result c.side_of-first.ensures c.requires.sources c.args.pair.first.number c.members-members.result.now c.members-members.ensures
    (side_struct c.args.units.now c.args.becomes.now c.args.pair.first.source c.side_of-first.result c.side_of-first.ensures c.args.pair.first refl c.requires.known.first)

pub compare_members-requires-clause-second : goal.compare_members-requires-clause-second
compare_members-requires-clause-second c =
    side_members c.args.units.now c.args.becomes.now c.args.pair.second.source c.side_of-second.result c.side_of-second.ensures c.requires.sources c.args.pair.second.number c.members-others.result.now c.members-others.ensures
    (side_struct c.args.units.now c.args.becomes.now c.args.pair.second.source c.side_of-second.result c.side_of-second.ensures c.args.pair.second refl c.requires.known.second)

pub returns : goal.returns
returns c =
    let units = c.args.units.now in
    let rows = c.args.becomes.now in
    let pair = c.args.pair in
    let yes_ : c.have_one_tag.result ≡ true = cc in
    pair_answered units pair c.members-members.result.now c.members-others.result.now
    (c.members-members.ensures ∙ side_members_in units rows pair.first.source c.side_of-first.result c.side_of-first.ensures pair.first refl)
    (c.members-others.ensures ∙ side_members_in units rows pair.second.source c.side_of-second.result c.side_of-second.ensures pair.second refl)
    c.if-pair.false (c.have_one_tag.ensures.0 yes_)
    (members_answered units rows c.requires.resolved pair.first.source pair.second.source c.side_of-first.result c.side_of-second.result c.side_of-first.ensures c.side_of-second.ensures
    c.args.pairs.now c.compare_members.new.pairs c.in_ok-answer.answer c.members-members.result.now c.members-others.result.now c.in_ok-answer.ensures)
