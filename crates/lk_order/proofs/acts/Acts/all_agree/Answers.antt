use Rattle.std.proofs.Common.{Contains, refl, sym, subst, ◌∙◌, arith}
use Rattle.std.proofs.lemmas.Bool.{false≢true}
use Rattle.std.proofs.lemmas.List.{take_all}
use Rattle.lk_order.specs.Acts.{basis_in, linear_in}
use Rattle.lk_order.specs.Asking.{Agrees}
use Rattle.lk_order.proofs.WorkLemmas.{all_more}
use Rattle.lk_order.proofs.acts.Acts.all_agree.Goals as goal

pub loop-link-init : goal.loop-link-init
loop-link-init c = λ link there. absurd (omega (arith, there.1))

pub loop-link-preserved : goal.loop-link-preserved
loop-link-preserved c =
    let self = c.args.self.now in
    all_more (Agrees (basis_in self) (linear_in self) c.args.known.now.keys c.args.goal) c.args.links.now c.loop-link.link-index c.link-item.result c.loop-link-test.true c.link-item.is c.loop-link.invariant
    (c.in_ok-agrees.ensures.0 c.if-not-branch.false)

pub returns-then-not-branch : goal.returns-then-not-branch
returns-then-not-branch c = (
  λ yes. absurd (false≢true yes),
  λ each. absurd (false≢true (sym c.if-not-branch.true ∙ c.in_ok-agrees.ensures.1 (each c.link-item.result (c.loop-link.link-index, c.loop-link-test.true, sym c.link-item.is)))),
)

pub returns : goal.returns
returns c = (
  λ yes link there. c.loop-link.invariant link (subst (λ links. Contains links link) (sym (take_all c.loop-link.link-index c.args.links.now c.loop-link-test.false)) there),
  λ each. refl,
)
