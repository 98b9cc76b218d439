use Rattle.lk_laws.proofs.LawLemmas.{partner}
use Rattle.lk_laws.proofs.laws.races_come_in_pairs.Goals as goal

pub returns : goal.returns
returns c = partner
