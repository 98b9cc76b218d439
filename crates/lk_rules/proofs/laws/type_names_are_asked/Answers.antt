use Rattle.lk_rules.proofs.Parts as lemma
use Rattle.lk_rules.proofs.laws.type_names_are_asked.Goals as goal

pub returns : goal.returns
returns c = lemma.type_names_are_asked
