use Rattle.lk_nodes.proofs.Sources as lemma
use Rattle.lk_nodes.proofs.laws.nodes_are_told_apart.Goals as goal

pub returns : goal.returns
returns c = lemma.nodes_are_told_apart
