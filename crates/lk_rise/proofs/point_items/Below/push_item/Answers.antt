use Rattle.std.proofs.Common.{◌∙◌, ◌++◌, [], Option, length, ap, sym}
use Rattle.std.specs.Option.{option_map_or}
use Rattle.lk_rise.specs.PointItems.{items_through}
use Rattle.lk_rise.specs.declared.correlations.Correlation.{Correlation}
use Rattle.lk_rise.proofs.NamingLemmas.{subject_within}
use Rattle.lk_rise.proofs.point_items.Below.push_item.Goals as goal

pub push_risen-requires : goal.push_risen-requires
push_risen-requires c =
    let self = c.args.self.now in
    subject_within self.facts.now (length self.facts.now.labels.entries) self.items.now c.args.number c.item-item.result c.requires.below.in_range c.item-item.ensures

pub returns : goal.returns
returns c =
    let self = c.args.self.now in
    c.in_ok-push_risen.ensures ∙ ap (λ (o : Option Correlation). c.args.found.now.items ++ option_map_or (items_through self.facts.now.origins c.args.link.now) o []) (sym c.item-item.ensures)
