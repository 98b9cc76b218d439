use Rattle.lk_rules.proofs.Parts as lemma
use Rattle.lk_rules.proofs.laws.types_of_parts_in_turn.Goals as goal

pub returns : goal.returns
returns c = lemma.types_of_parts_in_turn
