use Rattle.lk_rules.proofs.Parts as lemma
use Rattle.lk_rules.proofs.laws.parts_of_specifiers_have_types.Goals as goal

pub returns : goal.returns
returns c = lemma.parts_of_specifiers_have_types
