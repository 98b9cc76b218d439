use Rattle.lk_names.proofs.KnownScopes as lemma
use Rattle.lk_names.proofs.laws.known_left_stays.Goals as goal

pub returns : goal.returns
returns c = λ old new longer few many more scope known. lemma.known_left_stays old new longer few many more scope known
