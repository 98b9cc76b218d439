use Rattle.lk_held.specs.Acts.{basis_in}
use Rattle.lk_held.proofs.ActLemmas.{freed}
use Rattle.lk_held.proofs.acts.Acts.frees.Goals as goal

pub returns-in-Frees-clause-value : goal.returns-in-Frees-clause-value
returns-in-Frees-clause-value c =
    let self = c.args.self.now in
    freed (basis_in self) c.args.point c.in-Frees.mutex c.requires c.target.result (cc) (cc) c.target.ensures.value
