use Rattle.lk_rules.proofs.Kept as lemma
use Rattle.lk_rules.proofs.laws.nodes_are_broken_in_turn.Goals as goal

pub returns : goal.returns
returns c = lemma.nodes_are_broken_in_turn
