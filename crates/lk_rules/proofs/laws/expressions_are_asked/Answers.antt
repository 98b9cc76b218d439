use Rattle.lk_rules.proofs.Asked as lemma
use Rattle.lk_rules.proofs.laws.expressions_are_asked.Goals as goal

pub returns : goal.returns
returns c = lemma.expressions_are_asked
