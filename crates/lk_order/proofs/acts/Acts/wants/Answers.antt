use Rattle.lk_order.specs.Acts.{basis_in, linear_in}
use Rattle.lk_order.proofs.WantingLemmas.{wants_exact}
use Rattle.lk_order.proofs.acts.Acts.wants.Goals as goal

pub returns : goal.returns
returns c =
    let self = c.args.self.now in
    let last = c.in_ok-want_each.ensures in
    wants_exact (basis_in self) (linear_in self) c.want_each.new.wants.items
    (last.done c.if-branch.false) (last.keeps.sets c.loop-wants.invariant.0) (last.keeps.sound c.loop-wants.invariant.1)
