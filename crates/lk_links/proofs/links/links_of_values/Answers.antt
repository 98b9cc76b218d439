use Rattle.std.proofs.Common.{◌≡◌, subst, sym, rules}
use Rattle.lk_facts.specs.Facts.{basis_of}
use Rattle.lk_links.specs.Links.{AreLinksAt}
use Rattle.lk_links.proofs.LinkLemmas.{value_links}
use Rattle.lk_links.proofs.links.links_of_values.Goals as goal

pub returns : goal.returns
returns c =
    let basis = basis_of c.args.facts.now in
    subst (AreLinksAt basis c.args.point) (sym c.in_ok-links.ensures)
    (value_links basis c.args.point c.function-above.result c.args.a (search rules) c.requires.live c.requires.calls (search rules) c.in_ok-functions.functions (search rules) c.in_ok-functions.ensures.in_range c.in_ok-functions.ensures.members)
