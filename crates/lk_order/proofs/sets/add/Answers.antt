use Rattle.std.proofs.Common.{ap, [], sym, ◌∙◌}
use Rattle.std.proofs.lemmas.List.{get_or_read}
use Rattle.lk_held.proofs.ReleasingLemmas.{joins_same, joins_more}
use Rattle.std.specs.List.{list_all}
use Rattle.lk_sets.specs.Ids.{has_id}
use Rattle.lk_order.proofs.sets.add.Goals as goal

pub returns-then-has_all : goal.returns-then-has_all
returns-then-has_all c =
    let sets = c.args.sets.now.items in
    joins_same sets c.args.place c.index-set.result.now c.args.more.now (get_or_read sets c.args.place _ c.requires c.index-set.ensures []) (ap (list_all (has_id c.index-set.result.now)) (sym c.ids.ensures.list) ∙ sym c.has_all.ensures ∙ c.if-has_all.true)

pub returns : goal.returns
returns c =
    let sets = c.args.sets.now.items in
    joins_more sets c.args.place c.index-set.result.now c.args.more.now c.in_ok-joined.joined
    (get_or_read sets c.args.place _ c.requires c.index-set.ensures []) (ap (list_all (has_id c.index-set.result.now)) (sym c.ids.ensures.list) ∙ sym c.has_all.ensures ∙ c.if-has_all.false) c.in_ok-joined.ensures
