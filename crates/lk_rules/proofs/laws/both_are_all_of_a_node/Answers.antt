use Rattle.lk_rules.proofs.Kept as lemma
use Rattle.lk_rules.proofs.laws.both_are_all_of_a_node.Goals as goal

pub returns : goal.returns
returns c = lemma.both_are_all_of_a_node
