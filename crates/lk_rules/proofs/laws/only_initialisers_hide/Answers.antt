use Rattle.lk_rules.proofs.Parts as lemma
use Rattle.lk_rules.proofs.laws.only_initialisers_hide.Goals as goal

pub returns : goal.returns
returns c = lemma.only_initialisers_hide
