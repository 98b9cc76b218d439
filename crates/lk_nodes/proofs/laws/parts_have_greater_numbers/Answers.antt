use Rattle.lk_nodes.proofs.Sources as lemma
use Rattle.lk_nodes.proofs.laws.parts_have_greater_numbers.Goals as goal

pub returns : goal.returns
returns c = lemma.parts_have_greater_numbers
