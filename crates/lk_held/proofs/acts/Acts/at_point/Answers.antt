use Rattle.std.proofs.Common.{◌∙◌}
use Rattle.lk_held.specs.Acts.{basis_in}
use Rattle.lk_held.proofs.LockSetLemmas.{set_below}
use Rattle.lk_held.proofs.acts.Acts.at_point.Goals as goal

pub returns-clause-in_range : goal.returns-clause-in_range
returns-clause-in_range c =
    let self = c.args.self.now in
    set_below (basis_in self) c.args.states.now c.args.point c.in_ok-set.set c.requires.states (c.in_ok-set.ensures.value ∙ c.at.ensures) c.in_ok-set.ensures.sorted
