use Rattle.std.proofs.Common.{[], ◌∷◌, subst, sym}
use Rattle.lk_facts.specs.Flow.{IsOnly, IsHeldAs}
use Rattle.lk_held.specs.Acts.{basis_in}
use Rattle.lk_held.specs.Holding.{AreAdded, AreBrought}
use Rattle.lk_held.specs.States.{holds}
use Rattle.lk_held.proofs.AddLemmas.{added_one, added_same, added_brought, added_none}
use Rattle.lk_links.specs.Links.{links_at}
use Rattle.lk_held.proofs.acts.Acts.adds.Goals as goal

pub returns-in-Some : goal.returns-in-Some
returns-in-Some c =
    let basis = basis_in c.args.self.now in
    let at = holds c.args.states.now in
    let is = subst (λ m. IsOnly (IsHeldAs basis.flow m) c.held_as.result) c.mutex.view_is c.held_as.ensures.value in
    added_same basis at c.args.point c.in_ok-set.set (c.held_as.result ∷ []) c.in_ok-set.ensures.members (added_one basis at c.args.point c.in-Some.mutex c.held_as.result c.in-Some.ensures.value is)

pub returns-in-Some-2 : goal.returns-in-Some-2
returns-in-Some-2 c =
    let basis = basis_in c.args.self.now in
    let at = holds c.args.states.now in
    let links = links_at c.args.self.now.links.now c.args.point in
    added_brought basis at c.args.point links (c.requires.linked.each c.args.point c.requires.point) c.in_default.ensures.value c.in-Some-2.ids (subst (AreBrought basis at links) c.in-Some-2.is c.in_ok-ids.ensures)

pub returns-in-None : goal.returns-in-None
returns-in-None c =
    let basis = basis_in c.args.self.now in
    let at = holds c.args.states.now in
    let links = links_at c.args.self.now.links.now c.args.point in
    subst (AreAdded basis at c.args.point) (sym c.empty.ensures)
    (added_none basis at c.args.point links (c.requires.linked.each c.args.point c.requires.point) c.in_default.ensures.value (subst (AreBrought basis at links) c.in-None.is c.in_ok-ids.ensures))
