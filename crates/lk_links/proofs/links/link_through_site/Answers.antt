use Rattle.std.proofs.Common.{◌≡◌, subst, sym, rules}
use Rattle.lk_facts.specs.Facts.{basis_of}
use Rattle.lk_links.specs.Links.{AreLinksAt}
use Rattle.lk_links.proofs.LinkLemmas.{enters, site_link}
use Rattle.lk_links.proofs.links.link_through_site.Goals as goal

pub returns : goal.returns
returns c =
    let basis = basis_of c.args.facts.now in
    subst (AreLinksAt basis c.args.point) (sym c.in_ok-vec.ensures.items)
    (site_link basis c.args.point c.function.result c.args.below c.in-Some.site (search rules) c.requires.live (search rules) (search rules) c.requires.below c.args.starts c.requires.enters)
