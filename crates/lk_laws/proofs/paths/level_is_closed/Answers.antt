use Rattle.lk_facts.proofs.PathClosing.{level_closed}
use Rattle.lk_laws.proofs.paths.level_is_closed.Goals as goal

pub returns : goal.returns
returns c = λ es global. level_closed
