use Rattle.lk_facts.proofs.Ranges.{exit_within}
use Rattle.lk_order.specs.Acts.{basis_in}
use Rattle.lk_order.proofs.DroppingLemmas.{dropped_is}
use Rattle.lk_order.proofs.acts.Acts.dropped.Goals as goal

pub returns : goal.returns
returns c =
    let self = c.args.self.now in
    let last = c.in_ok-round.ensures in
    dropped_is (basis_in self) c.round.new.states
    (last.keeps.states c.loop-states.invariant.0) (last.done c.if-branch.false) (exit_within self.points.now c.count.ensures.in_range) (last.keeps.lost c.loop-states.invariant.1)
