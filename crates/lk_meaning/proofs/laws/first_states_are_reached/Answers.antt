use Rattle.lk_meaning.proofs.LawLemmas.{first_reached}
use Rattle.lk_meaning.proofs.laws.first_states_are_reached.Goals as goal

pub returns : goal.returns
returns c = first_reached
