use Rattle.lk_held.specs.Acts.{basis_in}
use Rattle.lk_held.proofs.HoldLemmas.{held_is}
use Rattle.lk_held.proofs.acts.Acts.states.Goals as goal

pub returns : goal.returns
returns c =
    let self = c.args.self.now in
    let last = c.in_ok-round.ensures in
    held_is (basis_in self) c.round.new.states
    (last.keeps.states c.loop-states.invariant.0) (last.keeps.lost c.loop-states.invariant.1) (last.done c.if-branch.false)
