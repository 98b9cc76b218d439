use Rattle.lk_held.specs.Acts.{basis_in}
use Rattle.lk_held.proofs.ActLemmas.{taken}
use Rattle.lk_held.proofs.acts.Acts.takes.Goals as goal

pub returns-in-Takes-clause-value : goal.returns-in-Takes-clause-value
returns-in-Takes-clause-value c =
    let self = c.args.self.now in
    taken (basis_in self) c.args.point c.in-Takes.mutex c.requires c.target.result (cc) (cc) c.target.ensures.value
