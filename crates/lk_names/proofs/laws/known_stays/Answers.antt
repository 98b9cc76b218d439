use Rattle.lk_names.proofs.KnownScopes as lemma
use Rattle.lk_names.proofs.laws.known_stays.Goals as goal

pub returns : goal.returns
returns c = lemma.known_stays
