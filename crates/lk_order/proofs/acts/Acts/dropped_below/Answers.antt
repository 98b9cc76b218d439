use Rattle.std.proofs.Common.{◌≡◌, ◌<◌, true, false, length, subst, sym, ◌∙◌, inl, inr}
use Rattle.std.proofs.lemmas.Bool.{cases_Bool}
use Rattle.std.proofs.lemmas.List.{take_all}
use Rattle.lk_links.specs.declared.link.Link.{Link}
use Rattle.lk_links.specs.Links.{AreLinksAt}
use Rattle.lk_order.specs.Acts.{basis_in}
use Rattle.lk_held.specs.Holding.{AreBrought, Meets}
use Rattle.lk_order.specs.Left.{is_left}
use Rattle.lk_held.proofs.AddLemmas.{brought_starts, brought_runs}
use Rattle.lk_order.proofs.acts.Acts.dropped_below.Goals as goal

pub meet_risen-requires-clause-below : goal.meet_risen-requires-clause-below
meet_risen-requires-clause-below c =
    let basis = basis_in c.args.self.now in
    let are : AreLinksAt basis c.args.point c.at-link-items.result.now = subst (AreLinksAt basis c.args.point) (sym c.at-link-items.ensures) (c.requires.linked.each c.args.point c.requires.point) in
    subst (λ (l : Link). l.below < length basis.program.functions) (sym c.link-item.is) (are.each c.loop-link.link-index c.link-item.result c.loop-link-test.true).below

pub loop-link-preserved : goal.loop-link-preserved
loop-link-preserved c =
    let basis = basis_in c.args.self.now in
    let at = is_left c.args.states.now in
    let items = c.at-link-items.result.now in
    elim (cases_Bool c.link-item.result.starts) [
      | inl starts ↦
          brought_starts basis at items c.loop-link.link-index c.link-item.result c.loop-link-test.true c.loop-link.all c.meet_risen.new.all (subst (λ (l : Link). l.starts ≡ true) c.link-item.is starts)
          (c.in_ok-meet_risen.ensures.starts starts) c.loop-link.invariant
      | inr runs ↦
          brought_runs basis at items c.loop-link.link-index c.link-item.result c.loop-link-test.true c.loop-link.all c.meet_risen.new.all (subst (λ (l : Link). l.starts ≡ false) c.link-item.is runs)
          (subst (λ (l : Link). Meets basis at l c.loop-link.all c.meet_risen.new.all) c.link-item.is (c.in_ok-meet_risen.ensures.runs runs)) c.loop-link.invariant
    ]

pub returns : goal.returns
returns c =
    subst (λ links. AreBrought (basis_in c.args.self.now) (is_left c.args.states.now) links c.loop-link.all)
    (take_all c.loop-link.link-index c.at-link-items.result.now c.loop-link-test.false ∙ c.at-link-items.ensures) c.loop-link.invariant
