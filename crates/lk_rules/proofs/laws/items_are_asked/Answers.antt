use Rattle.lk_rules.proofs.Parts as lemma
use Rattle.lk_rules.proofs.laws.items_are_asked.Goals as goal

pub returns : goal.returns
returns c = lemma.items_are_asked
