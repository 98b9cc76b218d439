use Rattle.lk_meaning.proofs.LawLemmas.{ended_stay}
use Rattle.lk_meaning.proofs.laws.ended_stay_ended.Goals as goal

pub returns : goal.returns
returns c = ended_stay
