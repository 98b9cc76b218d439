use Rattle.lk_nodes.proofs.Names as lemma
use Rattle.lk_nodes.proofs.laws.names_are_told_apart.Goals as goal

pub returns : goal.returns
returns c = lemma.names_are_told_apart
