use Rattle.std.proofs.Common.{◌≡◌, ◌<◌, ◌↔◌, ◌⊎◌, true, false, length, subst, sym, ◌∙◌}
use Rattle.std.proofs.lemmas.List.{take_all}
use Rattle.lk_links.specs.declared.link.Link.{Link}
use Rattle.lk_links.specs.Links.{AreLinksAt}
use Rattle.lk_held.specs.Acts.{basis_in, OneRuns}
use Rattle.lk_held.specs.Releasing.{Releases, IsOutside}
use Rattle.lk_held.proofs.ActLemmas.{joined_more}
use Rattle.lk_sets.specs.Ids.{has_id}
use Rattle.lk_held.proofs.acts.Acts.outside_callees.Goals as goal

pub join_outside-requires-clause-below : goal.join_outside-requires-clause-below
join_outside-requires-clause-below c =
    let basis = basis_in c.args.self.now in
    let are : AreLinksAt basis c.args.point c.at-link-items.result.now = subst (AreLinksAt basis c.args.point) (sym c.at-link-items.ensures) (c.requires.linked.each c.args.point c.requires.point) in
    subst (λ (l : Link). l.below < length basis.program.functions) (sym c.link-item.is) (are.each c.loop-link.link-index c.link-item.result c.loop-link-test.true).below

pub loop-link-preserved : goal.loop-link-preserved
loop-link-preserved c =
    let flow = (basis_in c.args.self.now).flow in
    record {
      members = λ x. joined_more (IsOutside flow (Releases c.args.released.now) x) c.at-link-items.result.now c.loop-link.link-index c.link-item.result (has_id c.loop-link.all x ≡ true) (has_id c.join_outside.new.all x ≡ true) c.loop-link-test.true
          (subst (λ (l : Link). (has_id c.join_outside.new.all x ≡ true) ↔ ((has_id c.loop-link.all x ≡ true) ⊎ ((l.starts ≡ false) × IsOutside flow (Releases c.args.released.now) x l))) c.link-item.is (c.in_ok-join_outside.ensures.members x))
          (c.loop-link.invariant.members x);
      below = c.in_ok-join_outside.ensures.in_range;
    }

pub returns-clause-members : goal.returns-clause-members
returns-clause-members c = λ x.
    subst (λ links. (has_id c.loop-link.all x ≡ true) ↔ OneRuns links (IsOutside (basis_in c.args.self.now).flow (Releases c.args.released.now) x)) (take_all c.loop-link.link-index c.at-link-items.result.now c.loop-link-test.false ∙ c.at-link-items.ensures)
    (c.loop-link.invariant.members x)
