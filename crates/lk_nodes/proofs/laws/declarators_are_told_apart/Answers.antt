use Rattle.lk_nodes.proofs.Sources as lemma
use Rattle.lk_nodes.proofs.laws.declarators_are_told_apart.Goals as goal

pub returns : goal.returns
returns c = lemma.declarators_are_told_apart
