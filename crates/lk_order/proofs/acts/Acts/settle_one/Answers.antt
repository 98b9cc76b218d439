use Rattle.std.proofs.Common.{◌∙◌, sym}
use Rattle.std.proofs.lemmas.Bool.{false≢true}
use Rattle.lk_order.specs.Acts.{basis_in, linear_in}
use Rattle.lk_order.proofs.SameLemmas.{learned, not_learned}
use Rattle.lk_order.proofs.acts.Acts.settle_one.Goals as goal

pub returns-then-is_known : goal.returns-then-is_known
returns-then-is_known c =
    let self = c.args.self.now in
    not_learned (basis_in self) (linear_in self) c.args.known.now.keys c.args.goal (λ follows. c.is_known.ensures.0 c.if-is_known.true)

pub learn-requires : goal.learn-requires
learn-requires c = λ there. false≢true (sym c.if-is_known.false ∙ c.is_known.ensures.1 there)

pub returns-then-not-branch : goal.returns-then-not-branch
returns-then-not-branch c =
    let self = c.args.self.now in
    not_learned (basis_in self) (linear_in self) c.args.known.now.keys c.args.goal (λ follows. absurd (false≢true (sym c.if-not-branch.true ∙ c.in_ok-follows.ensures.1 follows)))

pub returns : goal.returns
returns c =
    let self = c.args.self.now in
    learned (basis_in self) (linear_in self) c.args.known.now.keys c.learn.new.known.keys c.args.goal c.in_ok-learn.ensures.keys c.in_ok-learn.ensures.few (c.in_ok-follows.ensures.0 c.if-not-branch.false)
