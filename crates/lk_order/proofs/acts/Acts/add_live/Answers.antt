use Rattle.std.proofs.Common.{sym, ◌∙◌}
use Rattle.std.proofs.lemmas.Result.{IfOk-weaker}
use Rattle.lk_order.specs.Acts.{basis_in, linear_in}
use Rattle.lk_order.proofs.AcquiringLemmas.{dead_grows, one_grows}
use Rattle.lk_order.proofs.acts.Acts.add_live.Goals as goal

pub returns-then-not-live : goal.returns-then-not-live
returns-then-not-live c =
    let self = c.args.self.now in
    dead_grows (basis_in self) (linear_in self) c.args.point c.args.more.now c.args.acquired.now.items (sym c.live.ensures ∙ c.if-not-live.true)

pub returns : goal.returns
returns c =
    let self = c.args.self.now in
    IfOk-weaker c.add.result _ _ (λ changed joins.
    one_grows (basis_in self) (linear_in self) c.args.point c.args.more.now c.args.acquired.now.items c.add.new.sets.items changed c.requires.point (sym c.live.ensures ∙ c.if-not-live.false) c.requires.sets c.requires.more joins)
    c.add.ensures
