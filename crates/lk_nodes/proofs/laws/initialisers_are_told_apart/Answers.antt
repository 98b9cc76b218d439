use Rattle.lk_nodes.proofs.Sources as lemma
use Rattle.lk_nodes.proofs.laws.initialisers_are_told_apart.Goals as goal

pub returns : goal.returns
returns c = lemma.initialisers_are_told_apart
