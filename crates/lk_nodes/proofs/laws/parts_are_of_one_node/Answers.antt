use Rattle.lk_nodes.proofs.Sources as lemma
use Rattle.lk_nodes.proofs.laws.parts_are_of_one_node.Goals as goal

pub returns : goal.returns
returns c = lemma.parts_are_of_one_node
