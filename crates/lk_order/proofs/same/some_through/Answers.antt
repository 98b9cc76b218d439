use Rattle.std.proofs.Common.{◌≡◌, ℕ, Contains, refl, sym, subst, arith}
use Rattle.std.proofs.lemmas.Bool.{false≢true}
use Rattle.std.proofs.lemmas.List.{take_all}
use Rattle.lk_facts.specs.declared.way.Way.TheVariants.{Through}
use Rattle.lk_links.specs.declared.link.Link.{Link}
use Rattle.lk_order.proofs.WorkLemmas.{all_more}
use Rattle.lk_order.proofs.same.some_through.Goals as goal

pub loop-link-init : goal.loop-link-init
loop-link-init c = λ link there. absurd (omega (arith, there.1))

pub loop-link-preserved : goal.loop-link-preserved
loop-link-preserved c =
    all_more (λ (link : Link). (i : ℕ) → link.way ≡ Through i → ⊥) c.args.links.now c.loop-link.link-index c.link-item.result c.loop-link-test.true c.link-item.is c.loop-link.invariant
    (λ i is. cc (is, c.in-AsValue.is))

pub returns-in-Through : goal.returns-in-Through
returns-in-Through c =
    (λ yes. (c.link-item.result, (c.loop-link.link-index, c.loop-link-test.true, sym c.link-item.is), _, c.in-Through.is), λ has. refl)

pub returns : goal.returns
returns c = (
  λ yes. absurd (false≢true yes),
  λ found. absurd (c.loop-link.invariant found.0 (subst (λ links. Contains links found.0) (sym (take_all c.loop-link.link-index c.args.links.now c.loop-link-test.false)) found.1) found.2 found.3),
)
