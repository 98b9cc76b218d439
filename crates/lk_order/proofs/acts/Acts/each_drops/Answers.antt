use Rattle.std.proofs.Common.{◌<◌, ◌∙◌, Contains, length, refl, sym, subst, arith}
use Rattle.std.proofs.lemmas.Bool.{false≢true}
use Rattle.std.proofs.lemmas.List.{take_all}
use Rattle.lk_links.specs.Links.{AreLinksAt}
use Rattle.lk_links.specs.declared.link.Link.{Link}
use Rattle.lk_order.specs.Acquiring.{DropsWhereItRuns}
use Rattle.lk_order.specs.Acts.{basis_in, linear_in}
use Rattle.lk_order.proofs.WorkLemmas.{all_more}
use Rattle.lk_order.proofs.acts.Acts.each_drops.Goals as goal

pub loop-link-init : goal.loop-link-init
loop-link-init c = λ link there. absurd (omega (arith, there.1))

pub starts_or_drops-requires-clause-above : goal.starts_or_drops-requires-clause-above
starts_or_drops-requires-clause-above c =
    let basis = basis_in c.args.self.now in
    let are : AreLinksAt basis c.args.point c.at-link-items.result.now = subst (AreLinksAt basis c.args.point) (sym c.at-link-items.ensures) (c.requires.linked.each c.args.point c.requires.point) in
    subst (λ (l : Link). l.above < length basis.program.functions) (sym c.link-item.is) (are.each c.loop-link.link-index c.link-item.result c.loop-link-test.true).above

pub starts_or_drops-requires-clause-below : goal.starts_or_drops-requires-clause-below
starts_or_drops-requires-clause-below c =
    let basis = basis_in c.args.self.now in
    let are : AreLinksAt basis c.args.point c.at-link-items.result.now = subst (AreLinksAt basis c.args.point) (sym c.at-link-items.ensures) (c.requires.linked.each c.args.point c.requires.point) in
    subst (λ (l : Link). l.below < length basis.program.functions) (sym c.link-item.is) (are.each c.loop-link.link-index c.link-item.result c.loop-link-test.true).below

pub loop-link-preserved : goal.loop-link-preserved
loop-link-preserved c =
    let self = c.args.self.now in
    all_more (DropsWhereItRuns (basis_in self) (linear_in self) c.args.x) c.at-link-items.result.now c.loop-link.link-index c.link-item.result c.loop-link-test.true c.link-item.is c.loop-link.invariant
    (c.in_ok-starts_or_drops.ensures.0 c.if-not-branch.false)

pub returns-then-not-branch : goal.returns-then-not-branch
returns-then-not-branch c = (
  λ yes. absurd (false≢true yes),
  λ each.
      absurd
      (false≢true
      (sym c.if-not-branch.true
      ∙ c.in_ok-starts_or_drops.ensures.1 (each c.link-item.result (subst (λ links. Contains links c.link-item.result) c.at-link-items.ensures (c.loop-link.link-index, c.loop-link-test.true, sym c.link-item.is))))),
)

pub returns : goal.returns
returns c = (
  λ yes link there. c.loop-link.invariant link (subst (λ links. Contains links link) (sym (take_all c.loop-link.link-index c.at-link-items.result.now c.loop-link-test.false ∙ c.at-link-items.ensures)) there),
  λ each. refl,
)
