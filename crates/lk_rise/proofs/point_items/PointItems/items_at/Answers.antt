use Rattle.std.proofs.Common.{◌≡◌, ◌<◌, ◌↔◌, ◌∙◌, ◌∷◌, [], Some, Contains, length, sym, ap, subst}
use Rattle.std.proofs.lemmas.List.Elements.{All-weaker}
use Rattle.lk_facts.specs.Facts.{basis_of}
use Rattle.lk_facts.specs.Program.{function_at}
use Rattle.lk_links.specs.Links.{AreLinksAt, IsLink}
use Rattle.lk_links.specs.declared.link.Link.{Link}
use Rattle.lk_rise.specs.Correlations.{has_of}
use Rattle.lk_rise.specs.PointItems.{IsItemOf, PointTable, own_access_of}
use Rattle.lk_rise.proofs.PointLemmas.{linked_items, own_items}
use Rattle.lk_rise.proofs.point_items.PointItems.items_at.Goals as goal

pub accessed-requires : goal.accessed-requires
accessed-requires c = subst (λ (t : PointTable). c.args.point < length t.facts.program.points) (sym c.self.view_is) c.requires

pub at-requires : goal.at-requires
at-requires c =
    let within = subst (λ (t : PointTable). c.args.point < length t.facts.program.points) (sym c.self.view_is) c.requires in
    subst (λ n. c.args.point < n) (sym c.self.invariant.links.points) within

pub items_of_links-requires-clause-links : goal.items_of_links-requires-clause-links
items_of_links-requires-clause-links c =
    let facts = c.self.inside.below.facts.now in
    let within = subst (λ (t : PointTable). c.args.point < length t.facts.program.points) (sym c.self.view_is) c.requires in
    let are = subst (AreLinksAt (basis_of facts) c.args.point) (sym c.at.ensures) (c.self.invariant.links.each c.args.point within) in
    All-weaker (IsLink (basis_of facts) c.args.point) (λ (link : Link). link.below < length facts.program.functions) (λ link is. is.below) c.at.result.now are.each

pub returns-in-Some : goal.returns-in-Some
returns-in-Some c = λ f of i.
    let facts = c.self.inside.below.facts.now in
    let entries = c.self.inside.below.items.now in
    let of' = subst (λ (t : PointTable). function_at t.facts.program c.args.point ≡ Some f) (sym c.self.view_is) of in
    let is : c.in_ok-vec.field-0.items ≡ own_access_of c.args.point c.in-Some.label ∷ [] = c.in_ok-vec.ensures.items ∙ ap (λ x. x ∷ []) (c.own_access.ensures ∙ ap (own_access_of c.args.point) c.label.view_is) in
    subst (λ (t : PointTable). Contains c.in_ok-vec.field-0.items i ↔ ((i.point ≡ c.args.point) × IsItemOf (basis_of t.facts) (has_of t.entries) f i)) c.self.view_is
    (subst (λ xs. Contains xs i ↔ ((i.point ≡ c.args.point) × IsItemOf (basis_of facts) (has_of entries) f i)) (sym is) (own_items facts entries c.args.point f of' c.in-Some.label c.in-Some.ensures.value i))

pub returns : goal.returns
returns c = λ f of i.
    let facts = c.self.inside.below.facts.now in
    let entries = c.self.inside.below.items.now in
    let links = c.at.result.now in
    let within = subst (λ (t : PointTable). c.args.point < length t.facts.program.points) (sym c.self.view_is) c.requires in
    let are = subst (AreLinksAt (basis_of facts) c.args.point) (sym c.at.ensures) (c.self.invariant.links.each c.args.point within) in
    let of' = subst (λ (t : PointTable). function_at t.facts.program c.args.point ≡ Some f) (sym c.self.view_is) of in
    subst (λ (t : PointTable). Contains c.in_ok-found.found.items i ↔ ((i.point ≡ c.args.point) × IsItemOf (basis_of t.facts) (has_of t.entries) f i)) c.self.view_is
    (subst (λ xs. Contains xs i ↔ ((i.point ≡ c.args.point) × IsItemOf (basis_of facts) (has_of entries) f i)) (sym c.in_ok-found.ensures)
    (linked_items facts entries c.args.point f of' links are c.self.inside.below.numbers c.self.invariant.below.groups c.in_default.ensures.value i))
