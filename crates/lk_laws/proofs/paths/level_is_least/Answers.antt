use Rattle.lk_facts.proofs.PathClosing.{level_least}
use Rattle.lk_laws.proofs.paths.level_is_least.Goals as goal

pub returns : goal.returns
returns c = λ es global table closed. level_least _ closed
