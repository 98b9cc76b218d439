use Rattle.std.proofs.Common.{◌≡◌, ◌<◌, length, ap, sym, subst, refl, rules}
use Rattle.lk_facts.specs.Facts.{basis_of}
use Rattle.lk_sets.specs.Rows.{has}
use Rattle.lk_links.proofs.LinkLemmas.{functions_are, no_functions}
use Rattle.lk_links.proofs.SetLemmas.{All-has_id, All-set}
use Rattle.lk_links.proofs.links.functions_at.Goals as goal

pub returns-clause-members : goal.returns-clause-members
returns-clause-members c =
    functions_are (basis_of c.args.facts.now) c.args.facts.now.origins.all c.args.a c.in-Some.target c.in_ok-ids.ids.items c.in_ok-functions.functions refl (cc) c.in_ok-ids.ensures.members (search rules)

pub returns-clause-in_range : goal.returns-clause-in_range
returns-clause-in_range c =
    All-set (λ g. g < length c.args.facts.now.program.functions) c.in_ok-ids.ids.items c.in_ok-functions.functions (search rules)
    (λ g there. All-has_id (λ g. g < length c.args.facts.now.program.functions) c.in_ok-ids.ids.items g c.in_ok-ids.ensures.in_range there)
