use Rattle.lk_meaning.proofs.LawLemmas.{steps_reach}
use Rattle.lk_meaning.proofs.laws.steps_reach.Goals as goal

pub returns : goal.returns
returns c = steps_reach
