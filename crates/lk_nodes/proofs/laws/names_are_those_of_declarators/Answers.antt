use Rattle.lk_nodes.proofs.Names as lemma
use Rattle.lk_nodes.proofs.laws.names_are_those_of_declarators.Goals as goal

pub returns : goal.returns
returns c = lemma.names_are_those_of_declarators
