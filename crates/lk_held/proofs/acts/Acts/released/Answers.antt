use Rattle.lk_held.specs.Acts.{basis_in}
use Rattle.lk_held.proofs.ReleasingLemmas.{released_exact}
use Rattle.lk_held.proofs.acts.Acts.released.Goals as goal

pub returns : goal.returns
returns c =
    let self = c.args.self.now in
    let last = c.in_ok-release_each.ensures in
    released_exact (basis_in self) c.release_each.new.released.items
    (last.keeps.sets c.loop-released.invariant.0) (last.keeps.sound c.loop-released.invariant.1) (last.done c.if-branch.false)
