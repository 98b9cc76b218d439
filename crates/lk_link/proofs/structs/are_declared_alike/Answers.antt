use Rattle.std.proofs.Common.{◌≡◌, true, false, refl}
use Rattle.std.proofs.lemmas.Option.{slice_get_within}
use Rattle.lk_link.specs.declared.place.SizeRule.TheVariants.{SameOrAbsent}
use Rattle.lk_link.proofs.Pairing.{side_type, types_answered, alike_known, alike_no, alike_settled}
use Rattle.lk_link.proofs.structs.are_declared_alike.Goals as goal

pub side_of-first-requires-clause-known : goal.side_of-first-requires-clause-known
side_of-first-requires-clause-known c = slice_get_within c.args.units.now c.args.t.source c.requires.first.unit c.requires.first.at

pub side_of-second-requires-clause-known : goal.side_of-second-requires-clause-known
side_of-second-requires-clause-known c = slice_get_within c.args.units.now c.args.u.source c.requires.second.unit c.requires.second.at

pub compare_types-requires-clause-first : goal.compare_types-requires-clause-first
compare_types-requires-clause-first c = side_type c.args.units.now c.args.becomes.now c.args.t.source c.side_of-first.result c.side_of-first.ensures c.args.t refl c.requires.first

pub compare_types-requires-clause-second : goal.compare_types-requires-clause-second
compare_types-requires-clause-second c = side_type c.args.units.now c.args.becomes.now c.args.u.source c.side_of-second.result c.side_of-second.ensures c.args.u refl c.requires.second

pub returns-then-not-branch : goal.returns-then-not-branch
returns-then-not-branch c =
    let units = c.args.units.now in
    let rows = c.args.becomes.now in
    let t = c.args.t in
    let u = c.args.u in
    let asked = types_answered units rows c.requires.resolved t.source u.source c.side_of-first.result c.side_of-second.result c.side_of-first.ensures c.side_of-second.ensures
    c.new-pairs.result c.compare_types.new.pairs c.in_ok-compare_types.field-0 SameOrAbsent t.number u.number c.in_ok-compare_types.ensures in
    let no_ : c.in_ok-compare_types.field-0 ≡ false = cc in
    alike_no units t u c.new-pairs.result c.compare_types.new.pairs c.in_ok-compare_types.field-0 c.new-pairs.ensures asked no_

pub settle-requires-clause-known : goal.settle-requires-clause-known
settle-requires-clause-known c =
    let units = c.args.units.now in
    let rows = c.args.becomes.now in
    let t = c.args.t in
    let u = c.args.u in
    let asked = types_answered units rows c.requires.resolved t.source u.source c.side_of-first.result c.side_of-second.result c.side_of-first.ensures c.side_of-second.ensures
    c.new-pairs.result c.compare_types.new.pairs c.in_ok-compare_types.field-0 SameOrAbsent t.number u.number c.in_ok-compare_types.ensures in
    alike_known units t u c.new-pairs.result c.compare_types.new.pairs c.in_ok-compare_types.field-0 c.new-pairs.ensures asked

pub returns : goal.returns
returns c =
    let units = c.args.units.now in
    let rows = c.args.becomes.now in
    let t = c.args.t in
    let u = c.args.u in
    let asked = types_answered units rows c.requires.resolved t.source u.source c.side_of-first.result c.side_of-second.result c.side_of-first.ensures c.side_of-second.ensures
    c.new-pairs.result c.compare_types.new.pairs c.in_ok-compare_types.field-0 SameOrAbsent t.number u.number c.in_ok-compare_types.ensures in
    let yes_ : c.in_ok-compare_types.field-0 ≡ true = cc in
    alike_settled units t u c.new-pairs.result c.compare_types.new.pairs c.in_ok-compare_types.field-0 c.new-pairs.ensures asked yes_ c.settle.new.pairs c.in_ok-answer.answer c.in_ok-answer.ensures
