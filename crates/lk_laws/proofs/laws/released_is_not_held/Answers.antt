use Rattle.lk_laws.proofs.LawLemmas.{released}
use Rattle.lk_laws.proofs.laws.released_is_not_held.Goals as goal

pub returns : goal.returns
returns c = released
