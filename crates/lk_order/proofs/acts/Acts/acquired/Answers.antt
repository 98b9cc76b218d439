use Rattle.lk_order.specs.Acts.{basis_in, linear_in}
use Rattle.lk_order.proofs.AcquiringLemmas.{acquired_exact}
use Rattle.lk_order.proofs.acts.Acts.acquired.Goals as goal

pub returns : goal.returns
returns c =
    let self = c.args.self.now in
    let last = c.in_ok-acquire_each.ensures in
    acquired_exact (basis_in self) (linear_in self) c.acquire_each.new.acquired.items
    (last.done c.if-branch.false) (last.keeps.sets c.loop-acquired.invariant.0) (last.keeps.sound c.loop-acquired.invariant.1)
