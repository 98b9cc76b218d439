use Rattle.lk_typed.proofs.Meanings as lemma
use Rattle.lk_typed.proofs.laws.meanings_stay.Goals as goal

pub returns : goal.returns
returns c = lemma.meanings_stay
