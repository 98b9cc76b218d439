use Rattle.lk_rules.proofs.Parts as lemma
use Rattle.lk_rules.proofs.laws.definitions_are_asked.Goals as goal

pub returns : goal.returns
returns c = lemma.definitions_are_asked
