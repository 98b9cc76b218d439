use Rattle.std.proofs.Common.{◌∙◌, sym}
use Rattle.std.proofs.lemmas.Bool.{false≢true}
use Rattle.std.proofs.lemmas.Result.{IfOk-weaker}
use Rattle.lk_links.specs.Links.{links_at}
use Rattle.lk_order.specs.Acts.{basis_in, linear_in}
use Rattle.lk_order.proofs.LosingLemmas.{each_drops, runs_nothing}
use Rattle.lk_order.proofs.acts.Acts.all_drop.Goals as goal

pub returns-then-not-runs_some : goal.returns-then-not-runs_some
returns-then-not-runs_some c =
    let self = c.args.self.now in
    runs_nothing (basis_in self) (linear_in self) c.args.point (links_at self.links.now c.args.point) (c.requires.linked.each c.args.point c.requires.point) c.args.x
    (λ some. false≢true (sym c.if-not-runs_some.true ∙ c.runs_some.ensures.1 some))

pub returns : goal.returns
returns c =
    let self = c.args.self.now in
    IfOk-weaker c.each_drops.result _ _ (λ answer asked.
    each_drops (basis_in self) (linear_in self) c.args.point (links_at self.links.now c.args.point) (c.requires.linked.each c.args.point c.requires.point) c.args.x answer (c.runs_some.ensures.0 c.if-not-runs_some.false) asked)
    c.each_drops.ensures
