use Rattle.lk_rules.proofs.Parts as lemma
use Rattle.lk_rules.proofs.laws.hiding_parts_in_turn.Goals as goal

pub returns : goal.returns
returns c = lemma.hiding_parts_in_turn
