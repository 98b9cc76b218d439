use Rattle.std.proofs.Common.{◌≡◌, ◌∙◌, false, Contains, refl, sym, subst, arith}
use Rattle.std.proofs.lemmas.Bool.{both_ways, false≢true}
use Rattle.std.proofs.lemmas.List.{take_all}
use Rattle.lk_links.specs.declared.link.Link.{Link}
use Rattle.lk_order.proofs.WorkLemmas.{all_more}
use Rattle.lk_order.proofs.acts.Acts.runs_some.Goals as goal

pub loop-link-init : goal.loop-link-init
loop-link-init c = λ link there. absurd (omega (arith, there.1))

pub loop-link-preserved : goal.loop-link-preserved
loop-link-preserved c =
    all_more (λ (link : Link). link.starts ≡ false → ⊥) c.at-link-items.result.now c.loop-link.link-index c.link-item.result c.loop-link-test.true c.link-item.is c.loop-link.invariant
    (λ runs. both_ways _ runs c.if-not-link.false)

pub returns-then-not-link : goal.returns-then-not-link
returns-then-not-link c = (
  λ yes. (c.link-item.result, subst (λ links. Contains links c.link-item.result) c.at-link-items.ensures (c.loop-link.link-index, c.loop-link-test.true, sym c.link-item.is), c.if-not-link.true, tt),
  λ some. refl,
)

pub returns : goal.returns
returns c = (
  λ yes. absurd (false≢true yes),
  λ some. absurd (c.loop-link.invariant some.0 (subst (λ links. Contains links some.0) (sym (take_all c.loop-link.link-index c.at-link-items.result.now c.loop-link-test.false ∙ c.at-link-items.ensures)) some.1) some.2),
)
