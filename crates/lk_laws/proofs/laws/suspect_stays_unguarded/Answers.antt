use Rattle.lk_laws.proofs.LawLemmas.{unguarded}
use Rattle.lk_laws.proofs.laws.suspect_stays_unguarded.Goals as goal

pub returns : goal.returns
returns c = unguarded
