use Rattle.std.proofs.Common.{◌<◌, length, sym, subst}
use Rattle.std.proofs.lemmas.List.Elements.{All-weaker}
use Rattle.lk_facts.specs.Facts.{basis_of}
use Rattle.lk_links.specs.Links.{AreLinksAt, IsLink}
use Rattle.lk_links.specs.declared.link.Link.{Link}
use Rattle.lk_rise.specs.Correlations.{has_of}
use Rattle.lk_rise.specs.PointItems.{IsItemOf, PointTable}
use Rattle.lk_rise.proofs.PointLemmas.{no_child}
use Rattle.lk_rise.proofs.point_items.PointItems.may_start_at.Goals as goal

pub may_start-requires-clause-links : goal.may_start-requires-clause-links
may_start-requires-clause-links c =
    let facts = c.self.inside.below.facts.now in
    let within = subst (λ (t : PointTable). c.args.point < length t.facts.program.points) (sym c.self.view_is) c.requires in
    let are = subst (AreLinksAt (basis_of facts) c.args.point) (sym c.at.ensures) (c.self.invariant.links.each c.args.point within) in
    All-weaker (IsLink (basis_of facts) c.args.point) (λ (link : Link). link.below < length facts.program.functions) (λ link is. is.below) c.at.result.now are.each

pub returns : goal.returns
returns c = λ none f i at is.
    let facts = c.self.inside.below.facts.now in
    let within = subst (λ (t : PointTable). c.args.point < length t.facts.program.points) (sym c.self.view_is) c.requires in
    let are = subst (AreLinksAt (basis_of facts) c.args.point) (sym c.at.ensures) (c.self.invariant.links.each c.args.point within) in
    no_child facts c.self.inside.below.items.now c.args.point c.at.result.now are (c.may_start.ensures none) f i at
    (subst (λ (t : PointTable). IsItemOf (basis_of t.facts) (has_of t.entries) f i) (sym c.self.view_is) is)
