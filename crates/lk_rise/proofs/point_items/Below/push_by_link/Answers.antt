use Rattle.std.proofs.Common.{get_or, subst}
use Rattle.std.proofs.lemmas.List.Elements.{Contains-get_or}
use Rattle.std.proofs.Common.{Contains}
use Rattle.lk_rise.proofs.PointLemmas.{number_within}
use Rattle.lk_rise.proofs.point_items.Below.push_by_link.Goals as goal

pub push_item-requires-clause-number : goal.push_item-requires-clause-number
push_item-requires-clause-number c =
    let self = c.args.self.now in
    let list = c.at-number-items.result.now in
    let k = get_or list c.loop-number.number-index 0 in
    number_within self.items.now self.numbers c.args.link.now.below k c.requires.below.groups
    (subst (λ xs. Contains xs k) c.at-number-items.ensures (Contains-get_or list c.loop-number.number-index 0 c.loop-number-test.true))
